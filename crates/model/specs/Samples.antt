-- Worked examples of cases. Assumes nothing.
use Rattle.std.specs.Prelude.{◌≡◌, ℕ, List, [], ◌∷◌, ◌++◌, length, take, map, replicate, Some, None, Ok, Err, Option, cond, ◌==◌, Bool, true, false, slice_set}
use Rattle.layout.specs.declared.parts.Condition.{Condition}
use Rattle.layout.specs.declared.parts.Condition.TheVariants.{Equal, AtLeast, LessThan, Absent, HoldsToken}
use Rattle.layout.specs.declared.parts.Guard.TheVariants.{One, Two}
use Rattle.chart.specs.declared.edge.Cause.TheVariants.{Plain, Event, After, At}
use Rattle.chart.specs.declared.edge.Edge.{Edge}
use Rattle.chart.specs.Edges.{raw_of}
use Rattle.chart.specs.Samples.{bill_parts}
use Rattle.model.specs.declared.event.Event.{Event as CaseEvent}
use Rattle.model.specs.declared.event.Event.TheVariants.{Completion, Termination, Attribute, Node, Named, Ring}
use Rattle.model.specs.declared.clock.ClockState.TheVariants.{Running}
use Rattle.model.specs.declared.clock.Clock.{Clock}
use Rattle.model.specs.declared.refusal.Refusal.TheVariants.{EarlierMoment, OrderNotOpen}
use Rattle.model.specs.declared.call.Change.TheVariants.{Changed, Unchanged}
use Rattle.model.specs.declared.call.Entry.{Entry}
use Rattle.model.specs.declared.call.Entry.TheVariants.{Post, Tell, Report, Tick, Turn}
use Rattle.model.specs.Refusals.{refusal_number}
use Rattle.model.specs.Graph.{Graph, Rules, graph_of}
use Rattle.model.specs.State.{State}
use Rattle.model.specs.Steps.{holds, enabled, turn}
use Rattle.model.specs.Calls.{opening, recorded, Run}
use Rattle.model.specs.Accounts.{account}

-- nothing is known
abbrev pub no_facts : List (Option ℕ)
no_facts = replicate 16 None

-- a policy that ranks all edges alike, whatever it is told
abbrev pub alike : Unit {0} → ℕ → ℕ
alike p e = 0

abbrev pub unmoved : Unit {0} → ℕ → Unit {0} → Type 0
unmoved p e q = q ≡ p

-- a buffer of 64 bytes that begins with the edges
abbrev pub buffer : List ℕ → List ℕ
buffer es = take 64 (es ++ replicate 64 0)

-- a turn that took the edges and opened so many orders
abbrev pub took : CaseEvent → List ℕ → ℕ → Entry
took ev es orders = Turn 64 (Ok (Some (record { event = ev; edges = length es; orders = orders }))) (buffer es)

abbrev pub idle : Entry
idle = Turn 64 (Ok None) (buffer [])

abbrev pub runs_until : ℕ → ℕ → Clock
runs_until e deadline = record { edge = e; state = Running; deadline = deadline }

-- A BILL: send it, wait for the money, send it again after a time

abbrev pub bill_edges : List Edge
bill_edges =
    record { cause = Plain; guard = None; send = None; sources = record { bits = 1 }; targets = record { bits = 2 } }
    ∷ record { cause = Plain; guard = None; send = None; sources = record { bits = 2 }; targets = record { bits = 4 } }
    ∷ record { cause = Event 3; guard = None; send = None; sources = record { bits = 4 }; targets = record { bits = 8 } }
    ∷ record { cause = After 14; guard = None; send = None; sources = record { bits = 4 }; targets = record { bits = 2 } }
    ∷ []

abbrev pub bill : Graph
bill = graph_of bill_parts.nodes bill_edges

abbrev pub bill_log : List Entry
bill_log =
    took (Completion 0) (0 ∷ []) 1
    ∷ idle
    ∷ Report 1 (Ok tt)
    ∷ took (Termination 1) (1 ∷ []) 0
    ∷ took (Completion 2) [] 0
    ∷ Tick 114 (Ok tt)
    ∷ Post 3 (Ok tt)
    ∷ took (Named 3) (2 ∷ []) 0
    ∷ idle
    ∷ Report 1 (Err OrderNotOpen)
    ∷ []

-- the case after so many of these calls
abbrev pub billed : ℕ → State
billed k = account bill (opening 100 no_facts) (take k bill_log)

-- two tokens wait, and a clock for each
abbrev pub two_bills : State
two_bills = record {
  tokens = λ n. cond (n == 2) 2 0;
  finished = λ n. 0;
  events = [];
  clocks = runs_until 3 114 ∷ runs_until 3 120 ∷ [];
  moment = 114;
  next = 3;
  facts = no_facts;
  orders = [];
}

-- A WAIT NODE WITH AN EDGE TO ITSELF

abbrev pub circle_edges : List Edge
circle_edges =
    record { cause = Plain; guard = None; send = None; sources = record { bits = 1 }; targets = record { bits = 2 } }
    ∷ record { cause = After 5; guard = None; send = None; sources = record { bits = 2 }; targets = record { bits = 2 } }
    ∷ []

abbrev pub circle : Graph
circle = graph_of (record { activity = None } ∷ record { activity = None } ∷ []) circle_edges

abbrev pub circle_log : List Entry
circle_log =
    took (Completion 0) (0 ∷ []) 0
    ∷ took (Completion 1) [] 0
    ∷ idle
    ∷ Tick 105 (Ok tt)
    ∷ took (Ring 1) (1 ∷ []) 0
    ∷ took (Completion 1) [] 0
    ∷ idle
    ∷ []

abbrev pub circled : ℕ → State
circled k = account circle (opening 100 no_facts) (take k circle_log)

-- A GUARD THAT ASKS FOR A NUMBER OF AT LEAST 5

abbrev pub guarded_edges : List Edge
guarded_edges =
    record { cause = Plain; guard = None; send = None; sources = record { bits = 1 }; targets = record { bits = 2 } }
    ∷ record { cause = Plain; guard = Some (One (AtLeast 0 5)); send = None; sources = record { bits = 2 }; targets = record { bits = 4 } }
    ∷ []

abbrev pub guarded : Graph
guarded = graph_of (record { activity = None } ∷ record { activity = None } ∷ record { activity = None } ∷ []) guarded_edges

-- absent, 4, then 5
abbrev pub guarded_log : List Entry
guarded_log =
    took (Completion 0) (0 ∷ []) 0
    ∷ took (Completion 1) [] 0
    ∷ Tell 0 (Some 4) (Ok Changed)
    ∷ took (Attribute 0) [] 0
    ∷ Tell 0 (Some 5) (Ok Changed)
    ∷ Tell 0 (Some 5) (Ok Unchanged)
    ∷ took (Attribute 0) (1 ∷ []) 0
    ∷ idle
    ∷ []

abbrev pub guarded_after : ℕ → State
guarded_after k = account guarded (opening 100 no_facts) (take k guarded_log)

-- the number is there before the token, and the completion of the source is enough
abbrev pub early_log : List Entry
early_log = Tell 0 (Some 7) (Ok Changed) ∷ took (Completion 0) (0 ∷ []) 0 ∷ took (Completion 1) (1 ∷ []) 0 ∷ took (Attribute 0) [] 0 ∷ []

abbrev pub early_after : ℕ → State
early_after k = account guarded (opening 100 no_facts) (take k early_log)

-- AN EDGE WITH A FIXED MOMENT

abbrev pub dated_edges : List Edge
dated_edges =
    record { cause = Plain; guard = None; send = None; sources = record { bits = 1 }; targets = record { bits = 2 } }
    ∷ record { cause = At 105; guard = None; send = None; sources = record { bits = 2 }; targets = record { bits = 4 } }
    ∷ []

abbrev pub dated : Graph
dated = graph_of (record { activity = None } ∷ record { activity = None } ∷ record { activity = None } ∷ []) dated_edges

-- the same moment may come again
abbrev pub dated_log : List Entry
dated_log =
    took (Completion 0) (0 ∷ []) 0
    ∷ took (Completion 1) [] 0
    ∷ Tick 100 (Ok tt)
    ∷ Tick 104 (Ok tt)
    ∷ idle
    ∷ Tick 103 (Err EarlierMoment)
    ∷ Tick 105 (Ok tt)
    ∷ took (Ring 1) (1 ∷ []) 0
    ∷ idle
    ∷ []

abbrev pub dated_after : ℕ → State
dated_after k = account dated (opening 100 no_facts) (take k dated_log)

-- two tokens wait for that moment
abbrev pub two_dated : State
two_dated = record {
  tokens = λ n. cond (n == 1) 2 0;
  finished = λ n. 0;
  events = [];
  clocks = runs_until 1 105 ∷ runs_until 1 105 ∷ [];
  moment = 105;
  next = 1;
  facts = no_facts;
  orders = [];
}

-- AN EDGE THAT SENDS, AND WHOSE GUARD WATCHES A NODE

abbrev pub sending_edges : List Edge
sending_edges =
    record { cause = Plain; guard = None; send = None; sources = record { bits = 1 }; targets = record { bits = 6 } }
    ∷ record { cause = Plain; guard = Some (One (HoldsToken 3)); send = Some 5; sources = record { bits = 2 }; targets = record { bits = 16 } }
    ∷ record { cause = Event 3; guard = Some (One (HoldsToken 1)); send = None; sources = record { bits = 4 }; targets = record { bits = 8 } }
    ∷ []

abbrev pub sending : Graph
sending =
    graph_of
    (record { activity = None } ∷ record { activity = None } ∷ record { activity = None } ∷ record { activity = None } ∷ record { activity = None } ∷ [])
    sending_edges

-- the watched node is final, so its entering brings a change and no completion; only plain edges watch
abbrev pub sending_log : List Entry
sending_log =
    took (Completion 0) (0 ∷ []) 0
    ∷ took (Completion 1) [] 0
    ∷ took (Completion 2) [] 0
    ∷ Post 3 (Ok tt)
    ∷ took (Named 3) (2 ∷ []) 0
    ∷ took (Node 3) (1 ∷ []) 0
    ∷ took (Named 5) [] 0
    ∷ idle
    ∷ []

-- completions leave before a change that came earlier, and the change before a named event that came earlier
abbrev pub kinds_log : List Entry
kinds_log = Post 3 (Ok tt) ∷ Tell 0 (Some 4) (Ok Changed) ∷ took (Completion 0) (0 ∷ []) 0 ∷ took (Completion 1) [] 0 ∷ took (Completion 2) [] 0 ∷ took (Attribute 0) [] 0 ∷ took (Named 3) (2 ∷ []) 0 ∷ []

-- an edge whose guard asks for a token besides
abbrev pub watching : Graph
watching = graph_of
    (record { activity = None } ∷ record { activity = None } ∷ record { activity = None } ∷ [])
    (record { cause = Plain; guard = Some (Two (HoldsToken 1) (AtLeast 0 5)); send = None; sources = record { bits = 2 }; targets = record { bits = 4 } } ∷ [])

-- the token waits, and the number is there
abbrev pub ready : State
ready = record {
  tokens = λ n. cond (n == 1) 1 0;
  finished = λ n. 0;
  events = [];
  clocks = [];
  moment = 100;
  next = 1;
  facts = slice_set no_facts 0 (Some 7);
  orders = [];
}

-- an event of each kind, most of them twice
abbrev pub all_kinds : List CaseEvent
all_kinds = Completion 1 ∷ Completion 2 ∷ Termination 1 ∷ Termination 2 ∷ Attribute 0 ∷ Attribute 1 ∷ Node 1 ∷ Named 3 ∷ Named 4 ∷ Ring 3 ∷ Ring 4 ∷ []

-- the copies of an edge that each of them enables
abbrev pub enabled_by : Graph → State → ℕ → List ℕ
enabled_by c s e = map (λ ev. enabled c ev s e) all_kinds

abbrev pub asked_of : State → List Condition → List Bool
asked_of s xs = map (holds s) xs

pub record Samples : Type 0 where
  -- the chart is that of the bytes, and keeps the rules
  pub edges : map raw_of bill_edges ≡ bill_parts.edges
  pub rules : Rules bill
  -- the log is one of a case opened at 100
  pub bills : Run bill alike unmoved (opening 100 no_facts) tt bill_log (billed 10) tt
  pub opened : (billed 1).orders ≡ record { number = 1; node = 1; activity = 7 } ∷ []
  pub none_runs : (billed 3).clocks ≡ []
  pub clock_set : (billed 4).clocks ≡ runs_until 3 114 ∷ []
  pub clock_runs : (billed 7).clocks ≡ runs_until 3 114 ∷ []
  pub no_clock : (billed 8).clocks ≡ []
  pub not_open : refusal_number OrderNotOpen ≡ Some 28
  -- the ring at 114 takes one copy, and the clock for 120 runs on
  pub rings_once : turn bill (alike tt) 64 two_bills ≡ Ok (Some (record { event = Ring 3; edges = 1; orders = 1 }))
  pub runs_on : (recorded bill two_bills (took (Ring 3) (3 ∷ []) 1)).clocks ≡ runs_until 3 120 ∷ []
  -- the ring sets a fresh clock
  pub circle_rules : Rules circle
  pub circles : Run circle alike unmoved (opening 100 no_facts) tt circle_log (circled 7) tt
  pub first_clock : (circled 3).clocks ≡ runs_until 1 105 ∷ []
  pub fresh_clock : (circled 5).clocks ≡ runs_until 1 110 ∷ []
  pub guarded_rules : Rules guarded
  pub guards : Run guarded alike unmoved (opening 100 no_facts) tt guarded_log (guarded_after 8) tt
  pub early : Run guarded alike unmoved (opening 100 no_facts) tt early_log (early_after 4) tt
  -- which events enable a plain edge with a guard and one without, a triggered edge, and a timed one
  pub plain_guarded : enabled_by guarded ready 1 ≡ 1 ∷ 0 ∷ 1 ∷ 0 ∷ 1 ∷ 0 ∷ 0 ∷ 0 ∷ 0 ∷ 0 ∷ 0 ∷ []
  pub plain_watching : enabled_by watching ready 0 ≡ 1 ∷ 0 ∷ 1 ∷ 0 ∷ 1 ∷ 0 ∷ 1 ∷ 0 ∷ 0 ∷ 0 ∷ 0 ∷ []
  pub watching_unknown : enabled_by watching (record ready { facts = no_facts }) 0 ≡ 0 ∷ 0 ∷ 0 ∷ 0 ∷ 0 ∷ 0 ∷ 0 ∷ 0 ∷ 0 ∷ 0 ∷ 0 ∷ []
  pub plain_alone : enabled_by guarded (opening 100 no_facts) 0 ≡ 1 ∷ 1 ∷ 1 ∷ 1 ∷ 1 ∷ 1 ∷ 1 ∷ 1 ∷ 1 ∷ 1 ∷ 1 ∷ []
  pub triggered : enabled_by bill two_bills 2 ≡ 0 ∷ 0 ∷ 0 ∷ 0 ∷ 0 ∷ 0 ∷ 0 ∷ 2 ∷ 0 ∷ 0 ∷ 0 ∷ []
  pub timed : enabled_by bill two_bills 3 ≡ 0 ∷ 0 ∷ 0 ∷ 0 ∷ 0 ∷ 0 ∷ 0 ∷ 0 ∷ 0 ∷ 1 ∷ 0 ∷ []
  -- conditions on a number that is there, on one that is absent, and on tokens
  pub on_number : asked_of ready (Equal 0 7 ∷ Equal 0 6 ∷ AtLeast 0 7 ∷ AtLeast 0 8 ∷ LessThan 0 8 ∷ LessThan 0 7 ∷ Absent 0 ∷ []) ≡ true ∷ false ∷ true ∷ false ∷ true ∷ false ∷ false ∷ []
  pub on_absent : asked_of ready (Equal 1 0 ∷ AtLeast 1 0 ∷ LessThan 1 9 ∷ Absent 1 ∷ []) ≡ false ∷ false ∷ false ∷ true ∷ []
  pub on_token : asked_of ready (HoldsToken 1 ∷ HoldsToken 2 ∷ []) ≡ true ∷ false ∷ []
  -- a fixed moment, and one copy for each ring there too
  pub dated_rules : Rules dated
  pub dates : Run dated alike unmoved (opening 100 no_facts) tt dated_log (dated_after 9) tt
  pub dated_clock : (dated_after 1).clocks ≡ runs_until 1 105 ∷ []
  pub dated_once : enabled dated (Ring 1) two_dated 1 ≡ 1
  -- a change of a node enables what watches it; events leave by their kinds
  pub sending_rules : Rules sending
  pub sends : Run sending alike unmoved (opening 100 no_facts) tt sending_log (account sending (opening 100 no_facts) sending_log) tt
  pub by_kind : Run sending alike unmoved (opening 100 no_facts) tt kinds_log (account sending (opening 100 no_facts) kinds_log) tt
