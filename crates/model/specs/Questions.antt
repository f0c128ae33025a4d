-- What the questions answer. Assumes nothing.
use Rattle.std.specs.Prelude.{◌≡◌, ℕ, ◌<◌, ◌≤◌, Bool, true, cond, not, ◌&&◌, Some, None, Ok, Err, count_by, Option, Result, nat_lt, slice_index_or}
use Rattle.std.specs.Option.{ok_or}
use Rattle.desk.specs.Orders.{look_up}
use Rattle.desk.specs.declared.Order.{Order}
use Rattle.model.specs.declared.refusal.Refusal.{Refusal}
use Rattle.model.specs.declared.refusal.Refusal.TheVariants.{OutOfRange, OrderNotOpen}
use Rattle.model.specs.Graph.{Graph, action, final, is_clocked, any_below}
use Rattle.model.specs.Clocks.{running_of, spent_of}
use Rattle.model.specs.State.{State, available, relevant_to}

-- an answer about a thing of which there are so many
abbrev pub within : {A : Type 0} → ℕ → ℕ → A → Result A Refusal
within many k a = cond (nat_lt k many) (Ok a) (Err OutOfRange)

abbrev pub tokens_answer : Graph → State → ℕ → Result ℕ Refusal
tokens_answer c s n = within c.nodes n (s.tokens n)

-- 0 unless an action node
abbrev pub finished_answer : Graph → State → ℕ → Result ℕ Refusal
finished_answer c s n = within c.nodes n (cond (action c n) (s.finished n) 0)

-- how many clocks of an edge run, and how many are spent; 0 unless timed
abbrev pub running_clocks : Graph → State → ℕ → ℕ
running_clocks c s e = cond (is_clocked (c.cause e)) (count_by (running_of e) s.clocks) 0

abbrev pub spent_clocks : Graph → State → ℕ → ℕ
spent_clocks c s e = cond (is_clocked (c.cause e)) (count_by (spent_of e) s.clocks) 0

abbrev pub running_answer : Graph → State → ℕ → Result ℕ Refusal
running_answer c s e = within c.edges e (running_clocks c s e)

abbrev pub spent_answer : Graph → State → ℕ → Result ℕ Refusal
spent_answer c s e = within c.edges e (spent_clocks c s e)

abbrev pub found : Option Order → Result Order Refusal
found o = ok_or o OrderNotOpen

abbrev pub order_answer : State → ℕ → Result Order Refusal
order_answer s n = found (look_up n s.orders)

abbrev pub fact_answer : State → ℕ → Result (Option ℕ) Refusal
fact_answer s a = within 16 a (slice_index_or s.facts a None)

-- the case is over: every token is at a final node
abbrev pub over : Graph → State → Bool
over c s = not (any_below (λ n. nat_lt 0 (s.tokens n) && not (final c n)) c.nodes)

-- for an irrelevant edge a source with none available, whichever; else none
abbrev pub Missing : Graph → State → ℕ → Result (Option ℕ) Refusal → Type 0
Missing c s e (Ok (Some n)) = (e < c.edges) × (relevant_to c s e ≡ 0) × (n < c.nodes) × (c.source e n ≡ true) × (available c s n ≡ 0)
Missing c s e (Ok None) = (e < c.edges) × (1 ≤ relevant_to c s e)
Missing c s e (Err r) = (c.edges ≤ e) × (r ≡ OutOfRange)
