-- An edge of a chart, and the edge as it stands in the bytes.
use Rattle.std.specs.Prelude.{ℕ, Bool, not, ◌&&◌, ◌||◌, is_some, Some, None, Option}
use Rattle.layout.specs.declared.parts.RawEdge.{RawEdge}
use Rattle.chart.specs.declared.edge.Cause.{Cause}
use Rattle.chart.specs.declared.edge.Cause.TheVariants.{Plain, Event, After, At}
use Rattle.chart.specs.declared.edge.Edge.{Edge}

abbrev pub trigger_of : Cause → Option ℕ
trigger_of Plain = None
trigger_of (Event e) = Some e
trigger_of (After t) = None
trigger_of (At m) = None

abbrev pub after_of : Cause → Option ℕ
after_of Plain = None
after_of (Event e) = None
after_of (After t) = Some t
after_of (At m) = None

abbrev pub when_of : Cause → Option ℕ
when_of Plain = None
when_of (Event e) = None
when_of (After t) = None
when_of (At m) = Some m

-- the edge as it stands in the bytes
abbrev pub raw_of : Edge → RawEdge
raw_of e = record { trigger = trigger_of e.cause; after = after_of e.cause; when = when_of e.cause; guard = e.guard; send = e.send; sources = e.sources; targets = e.targets }

-- an edge without trigger, after and when
abbrev pub plain : RawEdge → Bool
plain e = not (is_some e.trigger) && (not (is_some e.after) && not (is_some e.when))

-- an edge with after or when
abbrev pub timed : RawEdge → Bool
timed e = is_some e.after || is_some e.when

-- an edge with more than one of trigger, after and when
abbrev pub several : RawEdge → Bool
several e = (is_some e.trigger && (is_some e.after || is_some e.when)) || (is_some e.after && is_some e.when)
