-- The law of runs refuses the logs of wrong engines: each contradicts a part of it, computed. Assumes nothing.
use Rattle.std.proofs.Common.{◌≡◌, ℕ, zero, suc, ◌<◌, true, false, ◌&&◌, List, [], ◌∷◌, length, take, Some, None, Ok, Err, Option, slice_get, slice_index_or, refl, ap, arith}
use Rattle.desk.specs.Orders.{look_up}
use Rattle.model.specs.declared.event.Event.{Event}
use Rattle.model.specs.declared.event.Event.TheVariants.{Completion, Named, Ring}
use Rattle.model.specs.declared.refusal.Refusal.TheVariants.{EventsWaiting, OrderNotOpen}
use Rattle.model.specs.declared.call.Change.TheVariants.{Changed}
use Rattle.model.specs.declared.call.Entry.{Entry}
use Rattle.model.specs.declared.call.Entry.TheVariants.{Post, Tell, Report}
use Rattle.model.specs.Choice.{count, total, least, room, no_later}
use Rattle.model.specs.Clocks.{count_of}
use Rattle.model.specs.Graph.{Graph}
use Rattle.model.specs.State.{State, available}
use Rattle.model.specs.Steps.{routed}
use Rattle.model.specs.Calls.{opening, Run}
use Rattle.model.specs.Calls.Run.{done as ended}
use Rattle.model.specs.Accounts.{account}
use Rattle.model.specs.RunLaw.{Fair, FairTurn, RunLaw}
use Rattle.model.specs.Samples.{no_facts, alike, unmoved, buffer, took, idle, bill, guarded}
use Rattle.model.specs.WrongRuns.{Obeys, Refused, split, split_log, joined_log, backwards, by_number, counting, held, held_log, rivals, sent_log, sent_twice, WrongRuns}
use Rattle.model.proofs.SampleRuns.{call}

module _ (c : Graph) (log : List Entry) (t : State) (h : Obeys c log t) where
  -- the account before call k
  abbrev before : ℕ → State
  before k = account c (opening 100 no_facts) (take k log)

  answered : (k : ℕ) (x : Entry) → slice_get log k ≡ Some x → Fair c (λ e. 0) (before k) x
  answered k x at = (h.fair k x at).answer

  turned : (k : ℕ) (ev : Event) (es : List ℕ) (n : ℕ) → slice_get log k ≡ Some (took ev es n) → FairTurn c (λ e. 0) (before k) (record { event = ev; edges = length es; orders = n }) (take (length es) (buffer es))
  turned k ev es n at = (answered k (took ev es n) at).1 (omega arith)

-- TURNS

idle_on_sight : Refused bill (idle ∷ [])
idle_on_sight t h =
    let e : Some (Completion 0) ≡ None = (answered bill _ t h 0 idle refl).1 (omega arith) in
    cc

one_token : (n : ℕ) → n < 4 → bill.source 0 n ≡ true → 0 ≡ available bill (routed (Completion 0) (opening 100 no_facts)) n → ⊥
one_token zero l s e = omega arith
one_token (suc zero) l s e = cc
one_token (suc (suc zero)) l s e = cc
one_token (suc (suc (suc zero))) l s e = cc
one_token (suc (suc (suc (suc n)))) l s e = omega arith

takes_nothing : Refused bill (took (Completion 0) [] 0 ∷ [])
unfolding least
takes_nothing t h =
    let x = (turned bill _ t h 0 (Completion 0) [] 0 refl).choice.left 0 (omega arith) (omega arith) in
    one_token x.0 x.1 x.2 x.3

other_token : (n : ℕ) → n < 5 → split.source 2 n ≡ true → count (λ y. split.source y n && no_later (λ e. 0) y 2) (1 ∷ []) ≡ available split (routed (Completion 1) (account split (opening 100 no_facts) (took (Completion 0) (0 ∷ []) 0 ∷ []))) n → ⊥
unfolding least
other_token zero l s e = cc
other_token (suc zero) l s e = cc
other_token (suc (suc zero)) l s e = omega arith
other_token (suc (suc (suc zero))) l s e = cc
other_token (suc (suc (suc (suc zero)))) l s e = cc
other_token (suc (suc (suc (suc (suc n))))) l s e = omega arith

takes_first_only : Refused split (split_log (1 ∷ []))
unfolding least
takes_first_only t h =
    let x = (turned split _ t h 1 (Completion 1) (1 ∷ []) 0 refl).choice.left 2 (omega arith) (omega arith) in
    other_token x.0 x.1 x.2 x.3

second_token : (n : ℕ) → n < 5 → split.source 3 n ≡ true → count (λ y. split.source y n && no_later (λ e. 0) y 3) (3 ∷ []) ≡ available split (routed (Completion 2) (account split (opening 100 no_facts) (split_log (1 ∷ 2 ∷ [])))) n → ⊥
unfolding least
second_token zero l s e = cc
second_token (suc zero) l s e = cc
second_token (suc (suc zero)) l s e = cc
second_token (suc (suc (suc zero))) l s e = omega arith
second_token (suc (suc (suc (suc zero)))) l s e = cc
second_token (suc (suc (suc (suc (suc n))))) l s e = omega arith

takes_one_copy : Refused split (joined_log (3 ∷ []))
unfolding least
takes_one_copy t h =
    let x = (turned split _ t h 2 (Completion 2) (3 ∷ []) 0 refl).choice.left 3 (omega arith) (omega arith) in
    second_token x.0 x.1 x.2 x.3

takes_both : Run split alike unmoved (opening 100 no_facts) tt (joined_log (3 ∷ 3 ∷ [])) (account split (opening 100 no_facts) (joined_log (3 ∷ 3 ∷ []))) tt
unfolding total least room
takes_both =
    call split _ _ _ _ (refl, refl) (tt, refl, refl)
    (call split _ _ _ _ (refl, refl) (tt, refl, (tt, refl, refl))
    (call split _ _ _ _ (refl, refl) (tt, refl, (tt, refl, refl)) ended))

takes_waiting_edge : Refused bill (sent_log (took (Completion 2) (2 ∷ []) 0 ∷ []))
takes_waiting_edge t h = omega (arith, (turned bill _ t h 3 (Completion 2) (2 ∷ []) 0 refl).choice.few 2 (omega arith))

takes_token_twice : Refused rivals (took (Completion 0) (0 ∷ []) 0 ∷ took (Completion 1) (1 ∷ 2 ∷ []) 0 ∷ [])
takes_token_twice t h = omega (arith, (turned rivals _ t h 1 (Completion 1) (1 ∷ 2 ∷ []) 0 refl).choice.covered 1 (omega arith))

mixes_edges : Refused split (split_log (2 ∷ 1 ∷ []))
mixes_edges t h =
    let x : false ≡ true = (turned split _ t h 1 (Completion 1) (2 ∷ 1 ∷ []) 0 refl).choice.sorted.0.0 in
    cc

ignores_ranks : (t : State) → RunLaw split backwards unmoved 100 no_facts tt (split_log (1 ∷ 2 ∷ [])) t tt → ⊥
ignores_ranks t h =
    let x : false ≡ true = ((h.fair 1 (took (Completion 1) (1 ∷ 2 ∷ []) 0) refl).answer.1 (omega arith)).choice.sorted.0.0 in
    cc

tells_no_policy : (t : State) → RunLaw split by_number counting 100 no_facts 0 (split_log (1 ∷ 2 ∷ [])) t 2 → ⊥
tells_no_policy t h =
    let a = (h.fair 0 (took (Completion 0) (0 ∷ []) 0) refl).told in
    let b = (h.fair 1 (took (Completion 1) (1 ∷ 2 ∷ []) 0) refl).told in
    omega (arith, h.first, h.last, a.1, a.2, b.1, b.2.1, b.2.2)

routes_late_event : Refused bill (Post 3 (Ok tt) ∷ took (Named 3) (0 ∷ []) 1 ∷ [])
routes_late_event t h =
    let e : Some (Completion 0) ≡ Some (Named 3) = (turned bill _ t h 1 (Named 3) (0 ∷ []) 1 refl).event in
    cc

makes_up_orders : Refused bill (took (Completion 0) (0 ∷ []) 5 ∷ [])
makes_up_orders t h = omega (arith, (turned bill _ t h 0 (Completion 0) (0 ∷ []) 5 refl).orders)

-- OTHER CALLS

refuses_event : Refused bill (Post 3 (Err EventsWaiting) ∷ [])
refuses_event t h = let e = answered bill _ t h 0 (Post 3 (Err EventsWaiting)) refl in cc

takes_any_report : Refused bill (Report 1 (Ok tt) ∷ [])
takes_any_report t h = let e = answered bill _ t h 0 (Report 1 (Ok tt)) refl in cc

knows_no_order : Refused bill (took (Completion 0) (0 ∷ []) 1 ∷ Report 1 (Err OrderNotOpen) ∷ [])
knows_no_order t h = let e = answered bill _ t h 1 (Report 1 (Err OrderNotOpen)) refl in cc

guard_holds : (n : ℕ) → n < 3 → guarded.source 1 n ≡ true → count (λ y. guarded.source y n && no_later (λ e. 0) y 1) [] ≡ available guarded (routed (Completion 1) (account guarded (opening 100 no_facts) (Tell 0 (Some 7) (Ok Changed) ∷ took (Completion 0) (0 ∷ []) 0 ∷ []))) n → ⊥
guard_holds zero l s e = cc
guard_holds (suc zero) l s e = omega arith
guard_holds (suc (suc zero)) l s e = cc
guard_holds (suc (suc (suc n))) l s e = omega arith

leaves_guarded_edge : Refused guarded (Tell 0 (Some 7) (Ok Changed) ∷ took (Completion 0) (0 ∷ []) 0 ∷ took (Completion 1) [] 0 ∷ [])
unfolding least
leaves_guarded_edge t h =
    let x = (turned guarded _ t h 2 (Completion 1) [] 0 refl).choice.left 1 (omega arith) (omega arith) in
    guard_holds x.0 x.1 x.2 x.3

-- FACTS, ORDERS AND CLOCKS

forgets_fact : (t : State) → t.facts ≡ no_facts → Obeys bill (Tell 0 (Some 7) (Ok Changed) ∷ []) t → ⊥
forgets_fact t f h =
    let now : slice_index_or t.facts 0 None ≡ None = ap (λ (xs : List (Option ℕ)). slice_index_or xs 0 None) f in
    let told : slice_index_or t.facts 0 None ≡ Some 7 = h.told 0 (omega arith) in
    cc

never_reaches_desk : (t : State) → t.orders ≡ [] → Obeys bill (took (Completion 0) (0 ∷ []) 1 ∷ []) t → ⊥
never_reaches_desk t f h =
    let now : look_up 1 t.orders ≡ None = ap (look_up 1) f in
    let given : look_up 1 t.orders ≡ Some (record { number = 1; node = 1; activity = 7 }) = h.orders 1 in
    cc

forgets_order : (t : State) → t.orders ≡ [] → Obeys bill sent_twice t → ⊥
forgets_order t f h =
    let now : look_up 2 t.orders ≡ None = ap (look_up 2) f in
    let given : look_up 2 t.orders ≡ Some (record { number = 2; node = 1; activity = 7 }) = h.orders 2 in
    cc

drops_clock : (t : State) → t.clocks ≡ [] → Obeys bill (sent_log []) t → ⊥
unfolding least
drops_clock t f h = omega (arith, h.tokens 2 (omega arith), h.clocks 3, ap (count_of 3) f)

rings_undue_clock : Refused bill (sent_log (took (Completion 2) [] 0 ∷ took (Ring 3) (3 ∷ []) 1 ∷ []))
unfolding least
rings_undue_clock t h =
    let e : None ≡ Some (Ring 3) = (turned bill _ t h 4 (Ring 3) (3 ∷ []) 1 refl).event in
    cc

rings_spent_clock : Refused held (held_log (took (Ring 1) [] 0 ∷ []))
unfolding least
rings_spent_clock t h =
    let e : None ≡ Some (Ring 1) = (turned held _ t h 4 (Ring 1) [] 0 refl).event in
    cc

rings_once : Run held alike unmoved (opening 100 no_facts) tt (held_log (idle ∷ [])) (account held (opening 100 no_facts) (held_log (idle ∷ []))) tt
unfolding total least room
rings_once =
    call held _ _ _ _ (refl, refl) (tt, refl, refl)
    (call held _ _ _ _ (refl, refl) refl
    (call held _ _ _ _ refl refl
    (call held _ _ _ _ (refl, refl) refl
    (call held _ _ _ _ (refl, tt) refl ended))))

pub wrong_runs : WrongRuns
wrong_runs = record {
  idle_on_sight = idle_on_sight;
  takes_nothing = takes_nothing;
  takes_first_only = takes_first_only;
  takes_one_copy = takes_one_copy;
  takes_both = takes_both;
  takes_waiting_edge = takes_waiting_edge;
  takes_token_twice = takes_token_twice;
  mixes_edges = mixes_edges;
  ignores_ranks = ignores_ranks;
  tells_no_policy = tells_no_policy;
  routes_late_event = routes_late_event;
  makes_up_orders = makes_up_orders;
  refuses_event = refuses_event;
  takes_any_report = takes_any_report;
  knows_no_order = knows_no_order;
  leaves_guarded_edge = leaves_guarded_edge;
  forgets_fact = forgets_fact;
  never_reaches_desk = never_reaches_desk;
  forgets_order = forgets_order;
  drops_clock = drops_clock;
  rings_undue_clock = rings_undue_clock;
  rings_spent_clock = rings_spent_clock;
  rings_once = rings_once;
}
