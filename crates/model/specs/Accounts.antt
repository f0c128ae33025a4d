-- What a log says of a case, from its opening on. Assumes nothing.
use Rattle.std.specs.Prelude.{ℕ, ◌-◌, Bool, true, false, cond, ◌&&◌, ◌||◌, Ok, Err, Result, count_by, List, [], ◌∷◌, Some, None, is_ok, filter, Option, ◌==◌, nat_lt, slice_get}
use Rattle.std.specs.List.{fold, list_any}
use Rattle.std.specs.Option.{option_map}
use Rattle.desk.specs.declared.Order.{Order}
use Rattle.model.specs.declared.event.Event.{Event}
use Rattle.model.specs.declared.event.Event.TheVariants.{Completion, Termination, Attribute, Node, Named, Ring}
use Rattle.model.specs.declared.refusal.Refusal.{Refusal}
use Rattle.model.specs.declared.call.Change.{Change}
use Rattle.model.specs.declared.call.Change.TheVariants.{Changed, Unchanged}
use Rattle.model.specs.declared.call.Entry.{Entry}
use Rattle.model.specs.declared.call.Entry.TheVariants.{Post, Tell, Report, Tick, Turn}
use Rattle.model.specs.Choice.{count}
use Rattle.model.specs.Ranks.{same_event}
use Rattle.model.specs.Graph.{Graph, action, waits, watched, entered}
use Rattle.model.specs.State.{State}
use Rattle.model.specs.Steps.{order_for}
use Rattle.model.specs.Calls.{recorded}
use Rattle.model.specs.Entries.{event_answered, all_taken}

-- the state after a log, by its calls, answers and buffers alone
abbrev pub account : Graph → State → List Entry → State
account c s [] = s
account c s (x ∷ xs) = account c (recorded c s x) xs

-- whether the order numbered j was reported, and the report not refused
abbrev pub reported_in : ℕ → Entry → Bool
reported_in j (Post v r) = false
reported_in j (Tell a v r) = false
reported_in j (Report n r) = is_ok r && n == j
reported_in j (Tick m r) = false
reported_in j (Turn room r buffer) = false

abbrev pub was_reported : List Entry → ℕ → Bool
was_reported xs j = list_any (reported_in j) xs

-- the action nodes that were entered, in order
abbrev pub places : Graph → List ℕ → List ℕ
places c xs = filter (action c) (entered c xs)

-- the order that number j was given out as, where numbers are given out from k on: at the action node in its turn
abbrev pub given_as : Graph → ℕ → List ℕ → ℕ → Option Order
given_as c k ns j = cond (nat_lt j k) None (option_map (order_for c j) (slice_get ns (j - k)))

-- over a log: from 1 on
abbrev pub order_of : Graph → List Entry → ℕ → Option Order
order_of c xs j = given_as c 1 (places c (all_taken xs)) j

-- the fact of an attribute after an entry: what was told and not refused
abbrev pub fact_after : ℕ → Option ℕ → Entry → Option ℕ
fact_after b w (Post v r) = w
fact_after b w (Tell a v r) = cond (is_ok r && a == b) v w
fact_after b w (Report n r) = w
fact_after b w (Tick m r) = w
fact_after b w (Turn room r buffer) = w

-- over a log: what was told last
abbrev pub last_told : ℕ → Option ℕ → List Entry → Option ℕ
last_told b w xs = fold (fact_after b) w xs

-- the moment after an entry, and over a log: the last tick that was not refused
abbrev pub moment_after : ℕ → Entry → ℕ
moment_after now (Post v r) = now
moment_after now (Tell a v r) = now
moment_after now (Report n r) = now
moment_after now (Tick m r) = cond (is_ok r) m now
moment_after now (Turn room r buffer) = now

abbrev pub last_ticked : ℕ → List Entry → ℕ
last_ticked now xs = fold moment_after now xs

-- EVENTS

-- how often turns answered an event
abbrev pub is_answer : Event → Option Event → Bool
is_answer ev None = false
is_answer ev (Some w) = same_event ev w

abbrev pub times_answered : Event → List Entry → ℕ
times_answered ev xs = count_by (λ x. is_answer ev (event_answered x)) xs

abbrev pub has_changed : Result Change Refusal → Bool
has_changed (Ok Changed) = true
has_changed (Ok Unchanged) = false
has_changed (Err e) = false

-- whether a post or a tell put the event, and how often
abbrev pub puts : Event → Entry → Bool
puts ev (Post v r) = is_ok r && same_event ev (Named v)
puts ev (Tell a v r) = has_changed r && same_event ev (Attribute a)
puts ev (Report n r) = false
puts ev (Tick m r) = false
puts ev (Turn room r buffer) = false

abbrev pub times_put : Event → List Entry → ℕ
times_put ev xs = count_by (puts ev) xs

-- how often edges that were taken sent it
abbrev pub is_send : Event → Option ℕ → Bool
is_send ev None = false
is_send ev (Some v) = same_event ev (Named v)

abbrev pub times_sent : Graph → Event → List ℕ → ℕ
times_sent c ev es = count (λ e. is_send ev (c.send e)) es

-- how often nodes that were entered brought it: a wait node its completion, a watched node its change
abbrev pub brings : Graph → Event → ℕ → Bool
brings c ev n = (waits c n && same_event ev (Completion n)) || (watched c n && same_event ev (Node n))

abbrev pub times_brought : Graph → Event → List ℕ → ℕ
times_brought c ev es = count (brings c ev) (entered c es)

-- terminations come by reports, and rings by clocks
abbrev pub comes_otherwise : Event → Bool
comes_otherwise (Completion n) = false
comes_otherwise (Termination n) = true
comes_otherwise (Attribute a) = false
comes_otherwise (Node n) = false
comes_otherwise (Named v) = false
comes_otherwise (Ring e) = true
