-- The calls: what each answers, and the state after it. Assumes nothing.
use Rattle.std.specs.Prelude.{◌≡◌, ℕ, Bool, true, false, cond, not, List, [], ◌∷◌, length, take, is_some, Some, None, Ok, Err, Option, Result, ◌==◌, nat_le, nat_lt, slice_index_or, slice_set}
use Rattle.bag.specs.Records.{put_in}
use Rattle.desk.specs.Orders.{look_up, without}
use Rattle.desk.specs.declared.Order.{Order}
use Rattle.policy.specs.Told.{Told}
use Rattle.chart.specs.Law.{Verdict, accepted, refused}
use Rattle.model.specs.declared.event.Event.{Event}
use Rattle.model.specs.declared.event.Event.TheVariants.{Completion, Termination, Attribute, Named}
use Rattle.model.specs.declared.refusal.Refusal.{Refusal}
use Rattle.model.specs.declared.refusal.Refusal.TheVariants.{AlreadyOpen, LateMoment, Chart, OutOfRange, EarlierMoment, OrderNotOpen, EventsWaiting, EventsFull}
use Rattle.model.specs.declared.call.Change.{Change}
use Rattle.model.specs.declared.call.Change.TheVariants.{Changed, Unchanged}
use Rattle.model.specs.declared.call.Routed.{Routed}
use Rattle.model.specs.declared.call.Entry.{Entry}
use Rattle.model.specs.declared.call.Entry.TheVariants.{Post, Tell, Report, Tick, Turn}
use Rattle.model.specs.Ranks.{event_before}
use Rattle.model.specs.Graph.{Graph}
use Rattle.model.specs.State.{State}
use Rattle.model.specs.Steps.{routed, taken, moved, turn}
use Rattle.model.specs.Entries.{taken_by}

-- the latest moment
abbrev pub latest : ℕ
latest = 4000000000

-- OPEN

abbrev pub charted : Verdict → Option Refusal
charted (accepted parts) = None
charted (refused e) = Some (Chart e)

-- why an opening is refused, by whether the case is open, the moment, and what is said of the chart's bytes
abbrev pub open_refusal : Bool → ℕ → Verdict → Option Refusal
open_refusal already moment v = cond already (Some AlreadyOpen) (cond (nat_lt latest moment) (Some LateMoment) (charted v))

-- one token at the first node, whose completion waits
abbrev pub opening : ℕ → List (Option ℕ) → State
opening moment facts = record {
  tokens = λ n. cond (n == 0) 1 0;
  finished = λ n. 0;
  events = Completion 0 ∷ [];
  clocks = [];
  moment = moment;
  next = 1;
  facts = facts;
  orders = [];
}

-- POST, TELL, REPORT, TICK

-- an event is added
abbrev pub added : Event → State → State
added ev s = record s { events = put_in event_before ev s.events }

abbrev pub post_answer : State → ℕ → Result (Unit {0}) Refusal
post_answer s v = cond (nat_lt 31 v) (Err OutOfRange) (cond (nat_le 192 (length s.events)) (Err EventsWaiting) (Ok tt))

-- a fact is set, and its change added
abbrev pub with_fact : ℕ → Option ℕ → State → State
with_fact a v s = record s {
  events = put_in event_before (Attribute a) s.events;
  facts = slice_set s.facts a v;
}

abbrev pub same_value : Option ℕ → Option ℕ → Bool
same_value None None = true
same_value None (Some w) = false
same_value (Some v) None = false
same_value (Some v) (Some w) = v == w

abbrev pub tell_answer : State → ℕ → Option ℕ → Result Change Refusal
tell_answer s a v =
    cond (nat_lt 15 a) (Err OutOfRange)
    (cond (nat_le 192 (length s.events)) (Err EventsWaiting)
    (Ok (cond (same_value (slice_index_or s.facts a None) v) Unchanged Changed)))

-- where an order stands
abbrev pub node_of : Option Order → ℕ
node_of None = 0
node_of (Some o) = o.node

-- an order is closed, and a termination at its node added
abbrev pub reported : ℕ → State → State
reported n s = record s {
  events = put_in event_before (Termination (node_of (look_up n s.orders))) s.events;
  orders = without n s.orders;
}

abbrev pub report_answer : State → ℕ → Result (Unit {0}) Refusal
report_answer s n =
    cond (not (is_some (look_up n s.orders))) (Err OrderNotOpen)
    (cond (nat_le 256 (length s.events)) (Err EventsFull) (Ok tt))

abbrev pub ticked : ℕ → State → State
ticked m s = record s { moment = m }

abbrev pub tick_answer : State → ℕ → Result (Unit {0}) Refusal
tick_answer s m = cond (nat_lt latest m) (Err LateMoment) (cond (nat_lt m s.moment) (Err EarlierMoment) (Ok tt))

-- ANY CALL, WITH ITS ANSWER

-- what a call that answered `r` leaves, where it would leave `t` if not refused
abbrev pub left_by : {A : Type 0} → Result A Refusal → State → State → State
left_by (Ok a) s t = t
left_by (Err e) s t = s

-- telling the same value again changes nothing
abbrev pub left_by_tell : Result Change Refusal → State → State → State
left_by_tell (Ok Changed) s t = t
left_by_tell (Ok Unchanged) s t = s
left_by_tell (Err e) s t = s

abbrev pub left_by_turn : Graph → Result (Option Routed) Refusal → List ℕ → State → State
left_by_turn c (Ok None) buffer s = s
left_by_turn c (Ok (Some done)) buffer s = moved c (take done.edges buffer) (routed done.event s)
left_by_turn c (Err e) buffer s = s

-- the state after an entry, by the call, its answer and its buffer alone
abbrev pub recorded : Graph → State → Entry → State
recorded c s (Post v r) = left_by r s (added (Named v) s)
recorded c s (Tell a v r) = left_by_tell r s (with_fact a v s)
recorded c s (Report n r) = left_by r s (reported n s)
recorded c s (Tick m r) = left_by r s (ticked m s)
recorded c s (Turn room r buffer) = left_by_turn c r buffer s

-- a turn that took edges has them in its buffer
abbrev pub Written : Graph → (ℕ → ℕ) → State → Result (Option Routed) Refusal → List ℕ → Type 0
Written c rank s (Ok None) buffer = Unit {0}
Written c rank s (Ok (Some done)) buffer = take done.edges buffer ≡ taken c rank done.event s
Written c rank s (Err e) buffer = Unit {0}

-- the entry has the answer to its call, by the ranks of the edges
abbrev pub Answers : Graph → (ℕ → ℕ) → State → Entry → Type 0
Answers c rank s (Post v r) = r ≡ post_answer s v
Answers c rank s (Tell a v r) = r ≡ tell_answer s a v
Answers c rank s (Report n r) = r ≡ report_answer s n
Answers c rank s (Tick m r) = r ≡ tick_answer s m
Answers c rank s (Turn room r buffer) = (r ≡ turn c rank room s) × Written c rank s r buffer

module _ (c : Graph) {P : Type 0} (rank : P → ℕ → ℕ) (moves : P → ℕ → P → Type 0) where
  -- one call: its answer, the state after it, and the policy, told of what was taken
  pub record Step (s : State) (p : P) (x : Entry) (t : State) (q : P) : Type 0 where
    pub answer : Answers c (rank p) s x
    pub after : t ≡ recorded c s x
    pub told : Told moves p (taken_by x) q

  -- one call after another
  pub data Run : State → P → List Entry → State → P → Type 0 where
    done : {s : State} {p : P} → Run s p [] s p
    next : {s t u : State} {p q r : P} {x : Entry} {xs : List Entry} → Step s p x t q → Run t q xs u r → Run s p (x ∷ xs) u r
