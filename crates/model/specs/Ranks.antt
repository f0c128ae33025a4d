-- The ranks and tags of events and clocks. Assumes nothing.
use Rattle.std.specs.Prelude.{ℕ, Bool, ◌&&◌, ◌||◌, ◌==◌, nat_lt}
use Rattle.model.specs.declared.event.Event.{Event}
use Rattle.model.specs.declared.event.Event.TheVariants.{Completion, Termination, Attribute, Node, Named, Ring}
use Rattle.model.specs.declared.event.Priority.{Priority}
use Rattle.model.specs.declared.event.Priority.TheVariants as priority
use Rattle.model.specs.declared.clock.ClockState.{ClockState}
use Rattle.model.specs.declared.clock.ClockState.TheVariants.{Running, Spent}
use Rattle.model.specs.declared.clock.Clock.{Clock}
use Rattle.model.specs.declared.clock.ClockTag.{ClockTag}

-- a ring never waits
abbrev pub priority_of : Event → Priority
priority_of (Completion n) = priority.Completion
priority_of (Termination n) = priority.Termination
priority_of (Attribute a) = priority.Change
priority_of (Node n) = priority.Change
priority_of (Named v) = priority.Named
priority_of (Ring e) = priority.Ring

-- the lowest leaves first
abbrev pub rank_of : Priority → ℕ
rank_of priority.Completion = 0
rank_of priority.Termination = 1
rank_of priority.Change = 2
rank_of priority.Named = 3
rank_of priority.Ring = 4

abbrev pub event_rank : Event → ℕ
event_rank x = rank_of (priority_of x)

abbrev pub event_before : Event → Event → Bool
event_before x y = nat_lt (event_rank x) (event_rank y)

abbrev pub event_kind : Event → ℕ
event_kind (Completion n) = 0
event_kind (Termination n) = 1
event_kind (Attribute a) = 2
event_kind (Node n) = 3
event_kind (Named v) = 4
event_kind (Ring e) = 5

-- the node, attribute, name or edge
abbrev pub subject : Event → ℕ
subject (Completion n) = n
subject (Termination n) = n
subject (Attribute a) = a
subject (Node n) = n
subject (Named v) = v
subject (Ring e) = e

-- an event's tag is its kind and its subject, which are all of it
abbrev pub same_event : Event → Event → Bool
same_event tag x = event_kind x == event_kind tag && subject x == subject tag

abbrev pub state_rank : ClockState → ℕ
state_rank Running = 0
state_rank Spent = 1

-- a running clock ranks before a spent one, and of two in one state the one with the earlier deadline
abbrev pub clock_before : Clock → Clock → Bool
clock_before x y = nat_lt (state_rank x.state) (state_rank y.state) || (state_rank x.state == state_rank y.state && nat_lt x.deadline y.deadline)

abbrev pub same_state : ClockState → ClockState → Bool
same_state x y = state_rank x == state_rank y

-- a clock's tag is its edge and its state
abbrev pub clock_tagged : ClockTag → Clock → Bool
clock_tagged t x = x.edge == t.edge && same_state x.state t.state
