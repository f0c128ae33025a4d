-- The law of runs leaves a turn no other event and no other edges. Assumes nothing.
use Rattle.std.proofs.Common.{◌≡◌, ℕ, suc, ◌<◌, List, [], ◌∷◌, length, take, Some, None, Ok, Err, Option, Result, map, slice_get, refl, sym, ap, ◌∙◌, subst, ⊎_elim, arith}
use Rattle.std.proofs.lemmas.Bool.{cases_lt}
use Rattle.model.specs.declared.event.Event.{Event}
use Rattle.model.specs.declared.refusal.Refusal.{Refusal}
use Rattle.model.specs.declared.refusal.Refusal.TheVariants.{ShortBuffer}
use Rattle.model.specs.declared.call.Routed.{Routed}
use Rattle.model.specs.declared.call.Entry.{Entry}
use Rattle.model.specs.declared.call.Entry.TheVariants.{Post, Tell, Report, Tick, Turn}
use Rattle.model.specs.ChoiceLaw.{Law}
use Rattle.model.specs.Graph.{Graph}
use Rattle.model.specs.State.{State}
use Rattle.model.specs.Steps.{event_of, routed, basis, moved, overflow}
use Rattle.model.specs.Calls.{opening, post_answer, report_answer, tick_answer, left_by_turn, recorded}
use Rattle.model.specs.Entries.{call_of, event_in_answer, event_answered, taken_in, taken_by}
use Rattle.model.specs.Accounts.{account}
use Rattle.model.specs.RunLaw.{FairTurn, FairRefusal, Routes, Fair, Decides}
use Rattle.model.proofs.Choices.{only}

module _ (c : Graph) (rank : ℕ → ℕ) (a : State) where
  -- what two entries of one call have in common
  record Alike (x y : Entry) : Type 0 where
    pub event : event_answered x ≡ event_answered y
    pub taken : taken_by x ≡ taken_by y
    pub after : recorded c a x ≡ recorded c a y

  same_events : (v w : Event) → event_of a ≡ Some v → event_of a ≡ Some w → v ≡ w
  same_events v w h k = cc

  same_edges : (v w : Event) (ys zs : List ℕ) → v ≡ w → Law (basis c v (routed v a)) rank ys → Law (basis c w (routed w a)) rank zs → ys ≡ zs
  same_edges v w ys zs e l m = only (basis c w (routed w a)) rank ys zs (subst (λ u. Law (basis c u (routed u a)) rank ys) e l) m

  -- a turn is refused or not, not both
  not_both : (done : Routed) (ys : List ℕ) (e : Refusal) → FairTurn c rank a done ys → FairRefusal c rank a e → ⊥
  not_both done ys e f g =
      let same : done.event ≡ g.event = same_events done.event g.event f.event g.found in
      let edges : ys ≡ g.edges = same_edges done.event g.event ys g.edges same f.choice g.choice in
      let over : overflow c (moved c ys (routed done.event a)) ≡ Some e = rw (same, edges) g.over in
      let fits = f.fits in
      grind arith

  record AlikeTurn (r o : Result (Option Routed) Refusal) (us vs : List ℕ) : Type 0 where
    pub event : event_in_answer r ≡ event_in_answer o
    pub taken : taken_in r us ≡ taken_in o vs
    pub after : left_by_turn c r us a ≡ left_by_turn c o vs a

  alike_turns : (r o : Result (Option Routed) Refusal) (us vs : List ℕ) → Routes c rank a r us → Routes c rank a o vs → AlikeTurn r o us vs
  alike_turns (Ok None) (Ok None) us vs f g = record { event = refl; taken = refl; after = refl }
  alike_turns (Ok None) (Ok (Some done)) us vs f g = absurd (let h = g.event in grind arith)
  alike_turns (Ok None) (Err e) us vs f g = absurd (let h = g.found in grind arith)
  alike_turns (Ok (Some done)) (Ok None) us vs f g = absurd (let h = f.event in grind arith)
  alike_turns (Ok (Some done)) (Ok (Some also)) us vs f g =
      let same = same_events done.event also.event f.event g.event in
      let edges = same_edges done.event also.event (take done.edges us) (take also.edges vs) same f.choice g.choice in
      record {
        event = ap Some same;
        taken = edges;
        after = rw (same, edges);
      }
  alike_turns (Ok (Some done)) (Err e) us vs f g = absurd (not_both done (take done.edges us) e f g)
  alike_turns (Err e) (Ok None) us vs f g = absurd (let h = f.found in grind arith)
  alike_turns (Err e) (Ok (Some done)) us vs f g = absurd (not_both done (take done.edges vs) e g f)
  alike_turns (Err e) (Err d) us vs f g = record { event = refl; taken = refl; after = refl }

  alike : (x y : Entry) → call_of x ≡ call_of y → Fair c rank a x → Fair c rank a y → Alike x y
  alike (Post v r) (Post w o) h f g =
      let same : v ≡ w = cc in
      let answer : r ≡ o = f ∙ ap (post_answer a) same ∙ sym g in
      record { event = refl; taken = refl; after = rw (same, answer) }
  alike (Tell b v r) (Tell d w o) h f g =
      let same : b ≡ d = cc in
      let value : v ≡ w = cc in
      let answer : r ≡ o = f ∙ rw (same, value) (sym g) in
      record { event = refl; taken = refl; after = rw (same, value, answer) }
  alike (Report n r) (Report m o) h f g =
      let same : n ≡ m = cc in
      let answer : r ≡ o = f ∙ ap (report_answer a) same ∙ sym g in
      record { event = refl; taken = refl; after = rw (same, answer) }
  alike (Tick n r) (Tick m o) h f g =
      let same : n ≡ m = cc in
      let answer : r ≡ o = f ∙ ap (tick_answer a) same ∙ sym g in
      record { event = refl; taken = refl; after = rw (same, answer) }
  alike (Turn n r us) (Turn m o vs) h f g =
      let same : n ≡ m = cc in
      ⊎_elim
      (λ l.
      let short : r ≡ Err ShortBuffer = f.0 l in
      let also : o ≡ Err ShortBuffer = g.0 (omega (arith, same)) in
      record { event = rw (short, also); taken = rw (short, also); after = rw (short, also) })
      (λ l. let t = alike_turns r o us vs (f.1 l) (g.1 (omega (arith, same))) in record { event = t.event; taken = t.taken; after = t.after })
      (cases_lt n 64)
  alike x y h f g = absurd (grind arith)

module _ (c : Graph) {P : Type 0} (rank : P → ℕ → ℕ) where
  -- each entry of a log from a state is fair, by the policy before it
  abbrev AllFair : State → (ℕ → P) → List Entry → Type 0
  AllFair a policy xs = (k : ℕ) (x : Entry) → slice_get xs k ≡ Some x → Fair c (rank (policy k)) (account c a (take k xs)) x

  record SameRuns (a : State) (xs ys : List Entry) : Type 0 where
    pub events : map event_answered xs ≡ map event_answered ys
    pub taken : map taken_by xs ≡ map taken_by ys
    pub agree : account c a xs ≡ account c a ys

  same_runs : (a : State) (f g : ℕ → P) (xs ys : List Entry) → AllFair a f xs → AllFair a g ys → map call_of xs ≡ map call_of ys → ((k : ℕ) → k < length xs → f k ≡ g k) → SameRuns a xs ys
  same_runs a f g [] [] d e h same = record { events = refl; taken = refl; agree = refl }
  same_runs a f g [] (y ∷ ys) d e h same = absurd (grind arith)
  same_runs a f g (x ∷ xs) [] d e h same = absurd (grind arith)
  same_runs a f g (x ∷ xs) (y ∷ ys) d e h same =
      let call : call_of x ≡ call_of y = cc in
      let calls : map call_of xs ≡ map call_of ys = cc in
      let now = alike c (rank (f 0)) a x y call (d 0 x refl) (subst (λ p. Fair c (rank p) a y) (sym (same 0 (omega arith))) (e 0 y refl)) in
      let rest = same_runs (recorded c a x) (λ k. f (suc k)) (λ k. g (suc k)) xs ys (λ k. d (suc k))
      (λ k z i. subst (λ b. Fair c (rank (g (suc k))) (account c b (take k ys)) z) (sym now.after) (e (suc k) z i)) calls (λ k l. same (suc k) (omega arith)) in
      record {
        events = rw (now.event, rest.events);
        taken = rw (now.taken, rest.taken);
        agree = rest.agree ∙ ap (λ b. account c b ys) now.after;
      }

pub decides : {P : Type 0} (rank : P → ℕ → ℕ) (moves : P → ℕ → P → Type 0) → Decides rank moves
decides rank moves c moment facts p q r xs ys t u one other calls same =
    let s = same_runs c rank (opening moment facts) one.policy other.policy xs ys (λ k x h. (one.fair k x h).answer) (λ k y h. (other.fair k y h).answer) calls same in
    (s.events, s.taken, one.agrees ∙ s.agree ∙ sym other.agrees)
