-- How often an event waits. Assumes nothing.
use Rattle.std.proofs.Common.{◌≡◌, ℕ, ◌+◌, Bool, true, false, cond, ◌&&◌, List, [], ◌∷◌, Some, None, Option, count_by, refl, ap, sym, ◌∙◌, arith}
use Rattle.std.proofs.lemmas.Bool.Decides.{nat_tests}
use Rattle.std.proofs.lemmas.List.Sums.{sum_by-cons}
use Rattle.bag.specs.Records.{put_in, tail_of}
use Rattle.model.specs.declared.event.Event.{Event}
use Rattle.model.specs.declared.event.Event.TheVariants.{Completion, Termination, Attribute, Node, Named, Ring}
use Rattle.model.specs.declared.clock.Clock.{Clock}
use Rattle.model.specs.Choice.{count}
use Rattle.model.specs.Ranks.{event_before, same_event}
use Rattle.model.specs.Graph.{Graph, waits, watched}
use Rattle.model.specs.State.{terminates}
use Rattle.model.specs.Steps.{ring_of, event_in, put_if, put_send, sent, arrived}
use Rattle.model.specs.Accounts.{is_send, brings, comes_otherwise}
use Rattle.model.proofs.Counts.{count-cons}

module _ (p : Event → Bool) where
  passing-cons : (ev : Event) (es : List Event) → count_by p (ev ∷ es) ≡ cond (p ev) 1 0 + count_by p es
  passing-cons ev es = sum_by-cons (λ x. cond (p x) 1 0) ev es

  pub passing_put : (ev : Event) (es : List Event) → count_by p (put_in event_before ev es) ≡ cond (p ev) 1 0 + count_by p es
  passing_put ev [] = passing-cons ev []
  passing_put ev (x ∷ xs) = grind (arith, passing_put ev xs, passing-cons ev (x ∷ xs), passing-cons x xs, passing-cons x (put_in event_before ev xs))

  passing_if : (b : Bool) (ev : Event) (es : List Event) → count_by p (put_if b ev es) ≡ cond (b && p ev) 1 0 + count_by p es
  passing_if true ev es = passing_put ev es
  passing_if false ev es = omega arith

module _ (ev : Event) where
  passing_send : (v : Option ℕ) (es : List Event) → count_by (same_event ev) (put_send v es) ≡ cond (is_send ev v) 1 0 + count_by (same_event ev) es
  passing_send None es = omega arith
  passing_send (Some v) es = passing_put (same_event ev) (Named v) es

  module _ (c : Graph) where
    pub passing_sent : (xs : List ℕ) (es : List Event) → count_by (same_event ev) (sent c xs es) ≡ count (λ e. is_send ev (c.send e)) xs + count_by (same_event ev) es
    passing_sent [] es = omega arith
    passing_sent (x ∷ xs) es =
        omega (arith, passing_sent xs (put_send (c.send x) es), passing_send (c.send x) es, count-cons (λ e. is_send ev (c.send e)) x xs)

    -- no event is both a completion and a change
    not_both : (n : ℕ) → cond (waits c n && same_event ev (Completion n)) 1 0 + cond (watched c n && same_event ev (Node n)) 1 0 ≡ cond (brings c ev n) 1 0
    not_both n = grind (arith, nat_tests)

    pub passing_arrived : (ns : List ℕ) (es : List Event) → count_by (same_event ev) (arrived c ns es) ≡ count (brings c ev) ns + count_by (same_event ev) es
    passing_arrived [] es = omega arith
    passing_arrived (n ∷ ns) es =
        let fs = put_if (waits c n) (Completion n) es in
        omega (
          arith,
          passing_arrived ns (put_if (watched c n) (Node n) fs),
          passing_if (same_event ev) (watched c n) (Node n) fs,
          passing_if (same_event ev) (waits c n) (Completion n) es,
          not_both n,
          count-cons (brings c ev) n ns,
        )

  not_ring : comes_otherwise ev ≡ false → (o : Option Clock) (w : Event) → ring_of o ≡ Some w → same_event ev w ≡ false
  not_ring h None w e = absurd (grind arith)
  not_ring h (Some k) w e = let q : Ring k.edge ≡ w = cc in ap (same_event ev) (sym q) ∙ other ev h
    where
      other : (v : Event) → comes_otherwise v ≡ false → same_event v (Ring k.edge) ≡ false
      other (Completion n) h = refl
      other (Termination n) h = refl
      other (Attribute a) h = refl
      other (Node n) h = refl
      other (Named n) h = refl
      other (Ring n) h = absurd (grind arith)

  -- what waited, and what is routed of it
  pub passing_routed : comes_otherwise ev ≡ false → (m : ℕ) (ks : List Clock) (es : List Event) (w : Event) → event_in m ks es ≡ Some w
      → count_by (same_event ev) es ≡ cond (same_event ev w) 1 0 + count_by (same_event ev) (tail_of es)
  passing_routed h m ks [] w e = rw (not_ring h _ w e) refl
  passing_routed h m ks (x ∷ xs) w e = let q : x ≡ w = cc in rw (← q) (passing-cons (same_event ev) x xs)

-- an event is the termination at a node just if it terminates it
pub termination_is : (ev : Event) (n : ℕ) → same_event (Termination n) ev ≡ terminates ev n
termination_is (Completion m) n = refl
termination_is (Termination m) n = refl
termination_is (Attribute a) n = refl
termination_is (Node m) n = refl
termination_is (Named v) n = refl
termination_is (Ring e) n = refl

pub no_termination : (ev : Event) → comes_otherwise ev ≡ false → (n : ℕ) → same_event ev (Termination n) ≡ false
no_termination (Completion m) h n = refl
no_termination (Termination m) h n = absurd (grind arith)
no_termination (Attribute a) h n = refl
no_termination (Node m) h n = refl
no_termination (Named v) h n = refl
no_termination (Ring e) h n = refl
