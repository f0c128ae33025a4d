-- One turn, step by step. Assumes nothing.
use Rattle.std.specs.Prelude.{ℕ, ◌+◌, ◌-◌, Bool, true, false, cond, not, ltb, List, [], ◌∷◌, length, is_some, Some, None, Ok, Err, Option, Result, ◌==◌, nat_eq, nat_le, nat_lt, slice_index_or}
use Rattle.std.specs.List.{list_all}
use Rattle.std.specs.Option.{option_map, unwrap_or}
use Rattle.layout.specs.declared.parts.Condition.{Condition}
use Rattle.layout.specs.declared.parts.Condition.TheVariants.{Equal, AtLeast, LessThan, Absent, HoldsToken}
use Rattle.layout.specs.declared.parts.Guard.{Guard}
use Rattle.chart.specs.declared.edge.Cause.{Cause}
use Rattle.chart.specs.declared.edge.Cause.TheVariants as cause
use Rattle.bag.specs.Records.{put_in, tail_of}
use Rattle.desk.specs.Orders.{inserted}
use Rattle.desk.specs.declared.Order.{Order}
use Rattle.model.specs.declared.event.Event.{Event}
use Rattle.model.specs.declared.event.Event.TheVariants.{Completion, Termination, Attribute, Node, Named, Ring}
use Rattle.model.specs.declared.clock.Clock.{Clock}
use Rattle.model.specs.declared.call.Routed.{Routed}
use Rattle.model.specs.declared.refusal.Refusal.{Refusal}
use Rattle.model.specs.declared.refusal.Refusal.TheVariants.{ShortBuffer, TooManyTokens, TooManyEvents, NoOrderNumber}
use Rattle.model.specs.Choice.{Basis, count, total, greedy}
use Rattle.model.specs.Ranks.{event_before}
use Rattle.model.specs.Graph.{Graph, action, waits, watched, timed, asked, any_of, names_attribute, names_node, relevance, entered}
use Rattle.model.specs.Clocks.{rung, after_ring, followed}
use Rattle.model.specs.State.{State, terminates, free, available, relevant_to}

-- 1. THE EVENT: the first that waits, or else the ring of the due clock of earliest deadline

abbrev pub ring_of : Option Clock → Option Event
ring_of o = option_map (λ k. Ring k.edge) o

abbrev pub event_in : ℕ → List Clock → List Event → Option Event
event_in moment ks [] = ring_of (rung moment ks)
event_in moment ks (x ∷ xs) = Some x

abbrev pub event_of : State → Option Event
event_of s = event_in s.moment s.clocks s.events

-- a clock that is routed becomes spent
abbrev pub clocks_routed : ℕ → List Clock → List Event → List Clock
clocks_routed moment ks [] = after_ring moment ks
clocks_routed moment ks (x ∷ xs) = ks

-- 2. THE EVENT LEAVES, and a termination makes a token finished

abbrev pub routed : Event → State → State
routed ev s = record s {
  finished = λ n. s.finished n + cond (terminates ev n) 1 0;
  events = tail_of s.events;
  clocks = clocks_routed s.moment s.clocks s.events;
}

-- 3. THE COPIES THAT ARE ENABLED

-- a comparison with an absent attribute is false
abbrev pub compares : (ℕ → Bool) → Option ℕ → Bool
compares p None = false
compares p (Some v) = p v

abbrev pub holds : State → Condition → Bool
holds s (Equal a v) = compares (λ w. nat_eq w v) (slice_index_or s.facts a None)
holds s (AtLeast a v) = compares (λ w. nat_le v w) (slice_index_or s.facts a None)
holds s (LessThan a v) = compares (λ w. ltb w v) (slice_index_or s.facts a None)
holds s (Absent a) = not (is_some (slice_index_or s.facts a None))
holds s (HoldsToken n) = nat_lt 0 (s.tokens n)

-- a guard is true if all its conditions are
abbrev pub guard_true : State → List Condition → Bool
guard_true s xs = list_all (holds s) xs

-- whether the event concerns a plain edge: any event where it has no guard
abbrev pub concerns : (ℕ → Bool) → Option Guard → Event → Bool
concerns source None ev = true
concerns source (Some g) (Completion n) = source n
concerns source (Some g) (Termination n) = source n
concerns source (Some g) (Attribute a) = any_of (names_attribute a) (asked (Some g))
concerns source (Some g) (Node n) = any_of (names_node n) (asked (Some g))
concerns source (Some g) (Named v) = false
concerns source (Some g) (Ring e) = false

-- whether the event is this named event, or this edge's ring
abbrev pub is_named : ℕ → Event → Bool
is_named v (Named w) = w == v
is_named v _ = false

abbrev pub is_ring : ℕ → Event → Bool
is_ring e (Ring x) = x == e
is_ring e _ = false

-- by an edge's cause, whether the event concerns it if plain, its number and its relevance
abbrev pub copies : Cause → Bool → Event → ℕ → ℕ → ℕ
copies cause.Plain concerned ev e r = cond concerned r 0
copies (cause.Event v) concerned ev e r = cond (is_named v ev) r 0
copies (cause.After t) concerned ev e r = cond (is_ring e ev) 1 0
copies (cause.At m) concerned ev e r = cond (is_ring e ev) 1 0

abbrev pub enabled : Graph → Event → State → ℕ → ℕ
enabled c ev s e =
    cond (guard_true s (asked (c.guard e)))
    (copies (c.cause e) (concerns (c.source e) (c.guard e) ev) ev e (relevant_to c s e))
    0

-- 4. THE STEP, in step order

-- what the choice goes by, in a state that has routed the event
abbrev pub basis : Graph → Event → State → Basis
basis c ev s = record { edges = c.edges; nodes = c.nodes; source = c.source; available = available c s; enabled = enabled c ev s }

abbrev pub taken : Graph → (ℕ → ℕ) → Event → State → List ℕ
taken c rank ev s = greedy (basis c ev (routed ev s)) rank

-- 5. TOKENS LEAVE AND ENTER

abbrev pub leaving : Graph → List ℕ → ℕ → ℕ
leaving c xs n = count (λ e. c.source e n) xs

abbrev pub entering : Graph → List ℕ → ℕ → ℕ
entering c xs n = count (λ e. c.target e n) xs

abbrev pub tokens_moved : Graph → List ℕ → State → ℕ → ℕ
tokens_moved c xs s n = s.tokens n - leaving c xs n + entering c xs n

abbrev pub finished_moved : Graph → List ℕ → State → ℕ → ℕ
finished_moved c xs s n = s.finished n - cond (action c n) (leaving c xs n) 0

-- 6. CLOCKS FOLLOW RELEVANCE: before step 5, after the leaving, after the entering

-- what is available once the tokens have left
abbrev pub between : Graph → List ℕ → State → ℕ → ℕ
between c xs s n = available c s n - leaving c xs n

abbrev pub clocks_moved : Graph → List ℕ → State → List Clock
clocks_moved c xs s =
    followed s.moment
    (relevant_to c s)
    (relevance c (between c xs s))
    (relevance c (free c (tokens_moved c xs s) (finished_moved c xs s)))
    (timed c) s.clocks

-- 7. EVENTS AND ORDERS: the sends, then what each entered node brings

abbrev pub put_if : Bool → Event → List Event → List Event
put_if b ev es = cond b (put_in event_before ev es) es

abbrev pub put_send : Option ℕ → List Event → List Event
put_send None es = es
put_send (Some v) es = put_in event_before (Named v) es

abbrev pub sent : Graph → List ℕ → List Event → List Event
sent c [] es = es
sent c (x ∷ xs) es = sent c xs (put_send (c.send x) es)

-- a wait node adds its completion, a watched node its change
abbrev pub arrived : Graph → List ℕ → List Event → List Event
arrived c [] es = es
arrived c (n ∷ ns) es = arrived c ns (put_if (watched c n) (Node n) (put_if (waits c n) (Completion n) es))

abbrev pub number_in : Option ℕ → ℕ
number_in o = unwrap_or o 0

abbrev pub order_for : Graph → ℕ → ℕ → Order
order_for c k n = record { number = k; node = n; activity = number_in (c.activity n) }

-- an action node opens an order under the next number
abbrev pub opened : Graph → ℕ → List ℕ → List Order → List Order
opened c k [] os = os
opened c k (n ∷ ns) os = cond (action c n) (opened c (k + 1) ns (inserted (order_for c k n) os)) (opened c k ns os)

-- how many orders the edges open
abbrev pub new_orders : Graph → List ℕ → ℕ
new_orders c xs = count (action c) (entered c xs)

-- the edges are taken
abbrev pub moved : Graph → List ℕ → State → State
moved c xs s = record s {
  tokens = tokens_moved c xs s;
  finished = finished_moved c xs s;
  events = arrived c (entered c xs) (sent c xs s.events);
  clocks = clocks_moved c xs s;
  next = s.next + new_orders c xs;
  orders = opened c s.next (entered c xs) s.orders;
}

-- 8. THE ANSWER

-- what would be too much, in the order in which it is told
abbrev pub overflow : Graph → State → Option Refusal
overflow c s =
    cond (nat_lt 64 (total s.tokens c.nodes)) (Some TooManyTokens)
    (cond (nat_lt 256 (length s.events)) (Some TooManyEvents)
    (cond (nat_lt 65536 s.next) (Some NoOrderNumber) None))

abbrev pub unless : Option Refusal → Routed → Result (Option Routed) Refusal
unless None done = Ok (Some done)
unless (Some e) done = Err e

abbrev pub answer_to : Graph → (ℕ → ℕ) → Option Event → State → Result (Option Routed) Refusal
answer_to c rank None s = Ok None
answer_to c rank (Some ev) s =
    unless (overflow c (moved c (taken c rank ev s) (routed ev s)))
    (record { event = ev; edges = length (taken c rank ev s); orders = new_orders c (taken c rank ev s) })

-- by a buffer of so many bytes
abbrev pub turn : Graph → (ℕ → ℕ) → ℕ → State → Result (Option Routed) Refusal
turn c rank room s = cond (nat_lt room 64) (Err ShortBuffer) (answer_to c rank (event_of s) s)
