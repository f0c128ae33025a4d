-- What a turn's answer says. Assumes nothing.
use Rattle.std.proofs.Common.{◌≡◌, ℕ, ◌<◌, ◌≤◌, List, length, take, Some, None, Ok, Err, Option, Result, refl, sym, ap, ◌∙◌, subst, ⊎_elim, arith}
use Rattle.std.proofs.lemmas.Bool.{cases_lt}
use Rattle.std.proofs.lemmas.Bool.Decides.{nat_tests}
use Rattle.model.specs.declared.event.Event.{Event}
use Rattle.model.specs.declared.refusal.Refusal.{Refusal}
use Rattle.model.specs.declared.refusal.Refusal.TheVariants.{ShortBuffer}
use Rattle.model.specs.declared.call.Routed.{Routed}
use Rattle.model.specs.Graph.{Graph, Rules}
use Rattle.model.specs.State.{State, Sound}
use Rattle.model.specs.Steps.{event_of, routed, basis, taken, new_orders, tokens_moved, moved, overflow, unless, answer_to, turn}
use Rattle.model.specs.Calls.{Written}
use Rattle.model.specs.RunLaw.{FairTurn, Routes}
use Rattle.model.proofs.Counts.{total_le}
use Rattle.model.proofs.Places.{new_orders_le}
use Rattle.model.proofs.Choices.{lawful, short}
use Rattle.model.proofs.Movement.{available_le, routed_sound, fits_all}

not_idle : (o : Option Refusal) (d : Routed) → Ok None ≡ unless o d → ⊥
not_idle None d h = grind arith
not_idle (Some e) d h = grind arith

unless_ok : (o : Option Refusal) (d done : Routed) → Ok (Some done) ≡ unless o d → (o ≡ None) × (done ≡ d)
unless_ok None d done h = (refl, cc)
unless_ok (Some e) d done h = absurd (grind arith)

unless_refused : (o : Option Refusal) (d : Routed) (e : Refusal) → Err e ≡ unless o d → o ≡ Some e
unless_refused None d e h = absurd (grind arith)
unless_refused (Some f) d e h = grind arith

module _ (c : Graph) (rules : Rules c) (rank : ℕ → ℕ) (s : State) (sound : Sound c s) where
  took : (ev : Event) (done : Routed) → event_of s ≡ Some ev → overflow c (moved c (taken c rank ev s) (routed ev s)) ≡ None
      → done ≡ record { event = ev; edges = length (taken c rank ev s); orders = new_orders c (taken c rank ev s) } → FairTurn c rank s done (taken c rank done.event s)
  took ev done q f e =
      let same : done.event ≡ ev = ap (λ d. d.event) e in
      let found : event_of s ≡ Some done.event = q ∙ ap Some (sym same) in
      let now = routed_sound c rules s done.event found sound in
      let b = basis c done.event (routed done.event s) in
      let ys = taken c rank done.event s in
      let zs = taken c rank ev s in
      let all : ys ≡ taken c rank ev s = ap (λ v. taken c rank v s) same in
      let many : length ys ≡ done.edges = ap length all ∙ sym (ap (λ d. d.edges) e) in
      record {
        event = found;
        edges = many;
        choice = lawful b rank;
        orders = ap (λ d. d.orders) e ∙ ap (new_orders c) (sym all);
        fits = subst (λ v. overflow c (moved c (taken c rank v s) (routed v s)) ≡ None) (sym same) f;
        few_edges = omega (arith, many, short b rank ys rules.sourced (lawful b rank), total_le b.available s.tokens c.nodes (available_le c (routed done.event s) now), sound.tokens);
        few_orders = omega (arith, ap (λ d. d.orders) e, new_orders_le c zs (tokens_moved c zs (routed ev s)) (λ n l. omega arith), (fits_all c (moved c zs (routed ev s)) f).tokens);
      }

  took_some : (o : Option Event) (done : Routed) → event_of s ≡ o → Ok (Some done) ≡ answer_to c rank o s → FairTurn c rank s done (taken c rank done.event s)
  took_some None done q h = absurd (grind arith)
  took_some (Some ev) done q h = let t = unless_ok (overflow c (moved c (taken c rank ev s) (routed ev s))) _ done h in took ev done q t.0 t.1

  routes : (o : Option Event) (r : Result (Option Routed) Refusal) (buffer : List ℕ) → event_of s ≡ o → r ≡ answer_to c rank o s → Written c rank s r buffer → Routes c rank s r buffer
  routes None (Ok None) buffer q h w = q
  routes (Some ev) (Ok None) buffer q h w = absurd (not_idle (overflow c (moved c (taken c rank ev s) (routed ev s))) _ h)
  routes o (Ok (Some done)) buffer q h w = subst (FairTurn c rank s done) (sym w) (took_some o done q h)
  routes None (Err e) buffer q h w = absurd (grind arith)
  routes (Some ev) (Err e) buffer q h w = record {
    event = ev;
    edges = taken c rank ev s;
    found = q;
    choice = lawful (basis c ev (routed ev s)) rank;
    over = unless_refused (overflow c (moved c (taken c rank ev s) (routed ev s))) _ e h;
  }

  module _ (room : ℕ) where
    with_room : (r : Result (Option Routed) Refusal) → r ≡ turn c rank room s → 64 ≤ room → r ≡ answer_to c rank (event_of s) s
    with_room r h l = grind (arith, nat_tests)

    pub short_buffer : (r : Result (Option Routed) Refusal) → r ≡ turn c rank room s → room < 64 → r ≡ Err ShortBuffer
    short_buffer r h l = grind (arith, nat_tests)

    pub turn_routes : (r : Result (Option Routed) Refusal) (buffer : List ℕ) → r ≡ turn c rank room s → Written c rank s r buffer → 64 ≤ room → Routes c rank s r buffer
    turn_routes r buffer h w l = routes (event_of s) r buffer refl (with_room r h l) w

    -- a turn that is not refused had the room
    pub took_all : (done : Routed) → Ok (Some done) ≡ turn c rank room s → FairTurn c rank s done (taken c rank done.event s)
    took_all done h =
        ⊎_elim
        (λ l. absurd (let e = short_buffer (Ok (Some done)) h l in grind arith))
        (λ l. took_some (event_of s) done refl (with_room (Ok (Some done)) h l))
        (cases_lt room 64)

    pub took_fairly : (done : Routed) (buffer : List ℕ) → Ok (Some done) ≡ turn c rank room s → take done.edges buffer ≡ taken c rank done.event s → FairTurn c rank s done (take done.edges buffer)
    took_fairly done buffer h w = subst (FairTurn c rank s done) (sym w) (took_all done h)
