-- A case by its meaning, and what always holds of it. Assumes nothing.
use Rattle.std.specs.Prelude.{◌≡◌, ℕ, ◌+◌, ◌<◌, ◌≤◌, Bool, true, false, cond, List, length, Some, count_by, Option, ◌==◌}
use Rattle.std.specs.List.{AllByRecursion}
use Rattle.bag.specs.Records.{in_order}
use Rattle.desk.specs.Orders.{Ascending}
use Rattle.desk.specs.declared.Order.{Order}
use Rattle.model.specs.declared.event.Event.{Event}
use Rattle.model.specs.declared.event.Event.TheVariants as event
use Rattle.model.specs.declared.clock.Clock.{Clock}
use Rattle.model.specs.Choice.{total}
use Rattle.model.specs.Ranks.{event_before, clock_before}
use Rattle.model.specs.Graph.{Graph, action, relevance, timed}
use Rattle.model.specs.ClockLaws.{Counted}

pub record State : Type 0 where
  -- of each node
  pub tokens : ℕ → ℕ
  pub finished : ℕ → ℕ
  -- in the order of leaving
  pub events : List Event
  pub clocks : List Clock
  pub moment : ℕ
  -- the number of the next order
  pub next : ℕ
  -- of each attribute
  pub facts : List (Option ℕ)
  -- by rising number
  pub orders : List Order

-- whether the event is a termination at the node
abbrev pub terminates : Event → ℕ → Bool
terminates (event.Termination m) n = m == n
terminates _ n = false

-- a ring never waits
abbrev pub can_wait : Event → Bool
can_wait (event.Ring e) = false
can_wait _ = true

-- how many reports at the node wait
abbrev pub reports_at : ℕ → List Event → ℕ
reports_at n xs = count_by (λ x. terminates x n) xs

-- how many open orders stand at the node
abbrev pub orders_at : ℕ → List Order → ℕ
orders_at n xs = count_by (λ x. x.node == n) xs

-- what is available at a node: the finished tokens of an action node, all tokens of another
abbrev pub free : Graph → (ℕ → ℕ) → (ℕ → ℕ) → ℕ → ℕ
free c tokens finished n = cond (action c n) (finished n) (tokens n)

abbrev pub available : Graph → State → ℕ → ℕ
available c s = free c s.tokens s.finished

-- how often an edge is relevant: the least available among its sources
abbrev pub relevant_to : Graph → State → ℕ → ℕ
relevant_to c s = relevance c (available c s)

pub record Sound (c : Graph) (s : State) : Type 0 where
  -- each token of an action node has an open order, or a report that waits, or is finished
  pub balance : (n : ℕ) → n < c.nodes → action c n ≡ true → s.tokens n ≡ orders_at n s.orders + reports_at n s.events + s.finished n
  -- another node has none of these
  pub idle : (n : ℕ) → action c n ≡ false → (orders_at n s.orders ≡ 0) × (reports_at n s.events ≡ 0) × (s.finished n ≡ 0)
  -- each timed edge has as many clocks as it is relevant
  pub clocks : Counted (timed c) (relevant_to c s) s.clocks
  -- events and clocks stand in the order of leaving
  pub ordered : in_order clock_before s.clocks ≡ true
  pub queued : in_order event_before s.events ≡ true
  pub all_can_wait : AllByRecursion (λ x. can_wait x ≡ true) s.events
  -- orders have the activity of their node, and numbers that were given out, each once
  pub given : AllByRecursion (λ o. o.number < s.next) s.orders
  pub active : AllByRecursion (λ o. c.activity o.node ≡ Some o.activity) s.orders
  pub rising : Ascending s.orders
  pub tokens : total s.tokens c.nodes ≤ 64
  pub events : length s.events ≤ 256
  pub next : s.next ≤ 65536
  pub moment : s.moment ≤ 4000000000
