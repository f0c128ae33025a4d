-- What a ring does. Assumes nothing.
use Rattle.std.proofs.Common.{◌≡◌, ℕ, suc, ◌<◌, ◌≤◌, true, false, List, [], ◌∷◌, refl, ⊎_elim, ◌∙◌, arith}
use Rattle.std.specs.List.{AllByRecursion}
use Rattle.std.proofs.lemmas.Bool.{and_parts, cases_Bool}
use Rattle.std.proofs.lemmas.Bool.Decides.{nat_tests}
use Rattle.bag.specs.Records.{none_before, in_order}
use Rattle.bag.proofs.Records.{order_put_in, put_in_place}
use Rattle.model.specs.Ranks.{clock_before}
use Rattle.model.specs.Clocks.{of_edge, count_of, due_by, rings, spent, after_ring}
use Rattle.model.specs.ClockLaws.{Rang, NoneDue, Ringing, RingsOnce}
use Rattle.model.specs.declared.clock.ClockState.TheVariants.{Running}
use Rattle.model.specs.declared.clock.Clock.{Clock}
use Rattle.model.proofs.Filters.{length_filter_put}
use Rattle.model.proofs.Falls.{states}
use Rattle.model.proofs.Rises.{asymmetric, transitive, length_put}

-- where no clock of the list ranks before `c`, those that run are not due before `c`, if it runs
later : (c : Clock) (t : ℕ) → (c.state ≡ Running → t ≤ c.deadline) → (cs : List Clock) → none_before clock_before c cs ≡ true → AllByRecursion (λ d. d.state ≡ Running → t ≤ d.deadline) cs
later c t h [] a = tt
later c t h (d ∷ ds) a = ((λ r. grind (arith, nat_tests, states c.state)), later c t h ds (and_parts _ _ a).1)

module _ (moment : ℕ) (c : Clock) (cs : List Clock) (o : in_order clock_before (c ∷ cs) ≡ true) where
  parts : (none_before clock_before c cs ≡ true) × (in_order clock_before cs ≡ true)
  parts = and_parts (none_before clock_before c cs) (in_order clock_before cs) o

  rang : rings c.state (due_by moment c) ≡ true → Rang moment (c ∷ cs) c
  rang e = record {
    running = grind (arith, states c.state);
    due = grind (arith, nat_tests, states c.state);
    earliest = ((λ _. omega arith), later c c.deadline (λ _. omega arith) cs parts.0);
    rest = cs;
    was = refl;
    is = rw e (put_in_place clock_before asymmetric transitive (spent c) cs parts.1);
  }

  none_due : rings c.state (due_by moment c) ≡ false → NoneDue moment (c ∷ cs)
  none_due e =
      let here : c.state ≡ Running → moment < c.deadline = λ r. grind (arith, nat_tests) in
      record { none = (here, later c (suc moment) here cs parts.0); same = rw e }

  counts : (n : ℕ) → count_of n (after_ring moment (c ∷ cs)) ≡ count_of n (c ∷ cs)
  counts n = grind (arith, length_filter_put (of_edge n) clock_before (spent c) cs)

  ring_first : Ringing moment (c ∷ cs)
  ring_first = record {
    rang = ⊎_elim (λ e. rw e (rang e)) (λ e. rw e (none_due e)) (cases_Bool (rings c.state (due_by moment c)));
    counts = counts;
    length = grind (arith, length_put (spent c) cs);
    ordered = grind (arith, order_put_in clock_before asymmetric transitive (spent c) cs);
    counted = λ xs b h n. counts n ∙ h n;
  }

pub ringing : RingsOnce
ringing moment [] o = record { rang = record { none = tt; same = refl }; counts = λ n. refl; length = refl; ordered = refl; counted = λ xs b h. h }
ringing moment (c ∷ cs) o = ring_first moment c cs o
