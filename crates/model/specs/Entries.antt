-- What a log says. Assumes nothing.
use Rattle.std.specs.Prelude.{◌≡◌, ℕ, length, List, [], take, Some, None, Ok, Err, Option, Result}
use Rattle.std.specs.List.{flat_map}
use Rattle.model.specs.declared.event.Event.{Event}
use Rattle.model.specs.declared.refusal.Refusal.{Refusal}
use Rattle.model.specs.declared.call.Call.{Call}
use Rattle.model.specs.declared.call.Call.TheVariants as call
use Rattle.model.specs.declared.call.Routed.{Routed}
use Rattle.model.specs.declared.call.Entry.{Entry}
use Rattle.model.specs.declared.call.Entry.TheVariants.{Post, Tell, Report, Tick, Turn}

-- the call of an entry
abbrev pub call_of : Entry → Call
call_of (Post e r) = call.Post e
call_of (Tell a v r) = call.Tell a v
call_of (Report n r) = call.Report n
call_of (Tick m r) = call.Tick m
call_of (Turn room r buffer) = call.Turn room

-- the event that a turn answered
abbrev pub event_in_answer : Result (Option Routed) Refusal → Option Event
event_in_answer (Ok None) = None
event_in_answer (Ok (Some done)) = Some done.event
event_in_answer (Err e) = None

abbrev pub event_answered : Entry → Option Event
event_answered (Post e r) = None
event_answered (Tell a v r) = None
event_answered (Report n r) = None
event_answered (Tick m r) = None
event_answered (Turn room r buffer) = event_in_answer r

-- the edges that were taken, by a turn's answer and buffer: as many as the answer says
abbrev pub taken_in : Result (Option Routed) Refusal → List ℕ → List ℕ
taken_in (Ok None) buffer = []
taken_in (Ok (Some done)) buffer = take done.edges buffer
taken_in (Err e) buffer = []

abbrev pub taken_by : Entry → List ℕ
taken_by (Post e r) = []
taken_by (Tell a v r) = []
taken_by (Report n r) = []
taken_by (Tick m r) = []
taken_by (Turn room r buffer) = taken_in r buffer

-- all the edges that were taken over a log, in order
abbrev pub all_taken : List Entry → List ℕ
all_taken xs = flat_map taken_by xs

-- the buffer of a turn has 64 bytes
abbrev pub HasBuffer : Entry → Type 0
HasBuffer (Post e r) = Unit {0}
HasBuffer (Tell a v r) = Unit {0}
HasBuffer (Report n r) = Unit {0}
HasBuffer (Tick m r) = Unit {0}
HasBuffer (Turn room r buffer) = length buffer ≡ 64
