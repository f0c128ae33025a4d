-- Logs of wrong engines, which the law of runs refuses. Assumes nothing.
use Rattle.std.specs.Prelude.{◌≡◌, ℕ, suc, ◌-◌, List, [], ◌∷◌, Some, None, Ok, Err}
use Rattle.layout.specs.declared.parts.Condition.TheVariants.{AtLeast}
use Rattle.layout.specs.declared.parts.Guard.TheVariants.{One}
use Rattle.chart.specs.declared.edge.Cause.TheVariants.{Plain, After}
use Rattle.chart.specs.declared.edge.Edge.{Edge}
use Rattle.model.specs.declared.event.Event.TheVariants.{Completion, Termination, Named, Ring}
use Rattle.model.specs.declared.refusal.Refusal.TheVariants.{EventsWaiting, OrderNotOpen}
use Rattle.model.specs.declared.call.Change.TheVariants.{Changed}
use Rattle.model.specs.declared.call.Entry.{Entry}
use Rattle.model.specs.declared.call.Entry.TheVariants.{Post, Tell, Report, Tick}
use Rattle.model.specs.Graph.{Graph, graph_of}
use Rattle.model.specs.State.{State}
use Rattle.model.specs.Calls.{opening, Run}
use Rattle.model.specs.Accounts.{account}
use Rattle.model.specs.RunLaw.{RunLaw}
use Rattle.model.specs.Samples.{no_facts, alike, unmoved, took, idle, bill, guarded}

-- the log obeys the law, from an opening at 100 on, and the case is `t` now
abbrev pub Obeys : Graph → List Entry → State → Type 0
Obeys c log t = RunLaw c alike unmoved 100 no_facts tt log t tt

-- whatever the case is said to be now
abbrev pub Refused : Graph → List Entry → Type 0
Refused c log = (t : State) → Obeys c log t → ⊥

-- TWO TOKENS THAT MOVE AT ONCE: from the first node to two others, from both to a fourth, and on from there

abbrev pub split_edges : List Edge
split_edges =
    record { cause = Plain; guard = None; send = None; sources = record { bits = 1 }; targets = record { bits = 6 } }
    ∷ record { cause = Plain; guard = None; send = None; sources = record { bits = 2 }; targets = record { bits = 8 } }
    ∷ record { cause = Plain; guard = None; send = None; sources = record { bits = 4 }; targets = record { bits = 8 } }
    ∷ record { cause = Plain; guard = None; send = None; sources = record { bits = 8 }; targets = record { bits = 16 } }
    ∷ []

abbrev pub split : Graph
split =
    graph_of
    (record { activity = None } ∷ record { activity = None } ∷ record { activity = None } ∷ record { activity = None } ∷ record { activity = None } ∷ [])
    split_edges

-- the second turn takes these edges
abbrev pub split_log : List ℕ → List Entry
split_log es = took (Completion 0) (0 ∷ []) 0 ∷ took (Completion 1) es 0 ∷ []

-- the second turn takes both edges, and the third these
abbrev pub joined_log : List ℕ → List Entry
joined_log es = took (Completion 0) (0 ∷ []) 0 ∷ took (Completion 1) (1 ∷ 2 ∷ []) 0 ∷ took (Completion 2) es 0 ∷ []

-- a policy that ranks the later edge first
abbrev pub backwards : Unit {0} → ℕ → ℕ
backwards p e = 9 - e

-- a policy that ranks edges by their numbers, and counts those that it was told of
abbrev pub by_number : ℕ → ℕ → ℕ
by_number p e = e

abbrev pub counting : ℕ → ℕ → ℕ → Type 0
counting p e q = q ≡ suc p

-- TWO EDGES FOR ONE TOKEN

abbrev pub rival_edges : List Edge
rival_edges =
    record { cause = Plain; guard = None; send = None; sources = record { bits = 1 }; targets = record { bits = 2 } }
    ∷ record { cause = Plain; guard = None; send = None; sources = record { bits = 2 }; targets = record { bits = 4 } }
    ∷ record { cause = Plain; guard = None; send = None; sources = record { bits = 2 }; targets = record { bits = 8 } }
    ∷ []

abbrev pub rivals : Graph
rivals = graph_of (record { activity = None } ∷ record { activity = None } ∷ record { activity = None } ∷ record { activity = None } ∷ []) rival_edges

-- A CLOCK THAT COMES DUE WHILE ITS GUARD IS FALSE

abbrev pub held_edges : List Edge
held_edges =
    record { cause = Plain; guard = None; send = None; sources = record { bits = 1 }; targets = record { bits = 2 } }
    ∷ record { cause = After 5; guard = Some (One (AtLeast 0 5)); send = None; sources = record { bits = 2 }; targets = record { bits = 4 } }
    ∷ []

abbrev pub held : Graph
held = graph_of (record { activity = None } ∷ record { activity = None } ∷ record { activity = None } ∷ []) held_edges

-- its clock rings at the deadline
abbrev pub held_log : List Entry → List Entry
held_log more = took (Completion 0) (0 ∷ []) 0 ∷ took (Completion 1) [] 0 ∷ Tick 105 (Ok tt) ∷ took (Ring 1) [] 0 ∷ more

-- A BILL

-- the bill was sent, and waits for its money
abbrev pub sent_log : List Entry → List Entry
sent_log more = took (Completion 0) (0 ∷ []) 1 ∷ Report 1 (Ok tt) ∷ took (Termination 1) (1 ∷ []) 0 ∷ more

-- and it was sent again at 114
abbrev pub sent_twice : List Entry
sent_twice = sent_log (took (Completion 2) [] 0 ∷ Tick 114 (Ok tt) ∷ took (Ring 3) (3 ∷ []) 1 ∷ [])

pub record WrongRuns : Type 0 where
  -- TURNS: an engine is idle though an event waits
  pub idle_on_sight : Refused bill (idle ∷ [])
  -- it takes no edge, though one is enabled
  pub takes_nothing : Refused bill (took (Completion 0) [] 0 ∷ [])
  -- of two edges that are enabled, and can leave together, it takes the first only, or of two copies of an edge the first only
  pub takes_first_only : Refused split (split_log (1 ∷ []))
  pub takes_one_copy : Refused split (joined_log (3 ∷ []))
  -- the log with both edges and both copies is one of a case
  pub takes_both : Run split alike unmoved (opening 100 no_facts) tt (joined_log (3 ∷ 3 ∷ [])) (account split (opening 100 no_facts) (joined_log (3 ∷ 3 ∷ []))) tt
  -- it takes an edge that is not enabled, or one token for two edges that are
  pub takes_waiting_edge : Refused bill (sent_log (took (Completion 2) (2 ∷ []) 0 ∷ []))
  pub takes_token_twice : Refused rivals (took (Completion 0) (0 ∷ []) 0 ∷ took (Completion 1) (1 ∷ 2 ∷ []) 0 ∷ [])
  -- it does not keep the order of the edges, by their numbers or by the policy's ranks
  pub mixes_edges : Refused split (split_log (2 ∷ 1 ∷ []))
  pub ignores_ranks : (t : State) → RunLaw split backwards unmoved 100 no_facts tt (split_log (1 ∷ 2 ∷ [])) t tt → ⊥
  -- it does not tell the policy of an edge
  pub tells_no_policy : (t : State) → RunLaw split by_number counting 100 no_facts 0 (split_log (1 ∷ 2 ∷ [])) t 2 → ⊥
  -- it routes an event before one that goes first
  pub routes_late_event : Refused bill (Post 3 (Ok tt) ∷ took (Named 3) (0 ∷ []) 1 ∷ [])
  -- it says that more orders were opened than were
  pub makes_up_orders : Refused bill (took (Completion 0) (0 ∷ []) 5 ∷ [])
  -- OTHER CALLS: it refuses an event without cause, or takes a report of an order that is not open
  pub refuses_event : Refused bill (Post 3 (Err EventsWaiting) ∷ [])
  pub takes_any_report : Refused bill (Report 1 (Ok tt) ∷ [])
  -- or it refuses a report of an order that was given out, since its desk never had it
  pub knows_no_order : Refused bill (took (Completion 0) (0 ∷ []) 1 ∷ Report 1 (Err OrderNotOpen) ∷ [])
  -- a fact was told that makes a guard true, and its edge is left out, since its book forgot the fact
  pub leaves_guarded_edge : Refused guarded (Tell 0 (Some 7) (Ok Changed) ∷ took (Completion 0) (0 ∷ []) 0 ∷ took (Completion 1) [] 0 ∷ [])
  -- FACTS AND ORDERS: its book forgets a fact
  pub forgets_fact : (t : State) → t.facts ≡ no_facts → Obeys bill (Tell 0 (Some 7) (Ok Changed) ∷ []) t → ⊥
  -- the order for an action node that was entered never reaches its desk
  pub never_reaches_desk : (t : State) → t.orders ≡ [] → Obeys bill (took (Completion 0) (0 ∷ []) 1 ∷ []) t → ⊥
  -- two orders were given out and one was reported, and its desk has none
  pub forgets_order : (t : State) → t.orders ≡ [] → Obeys bill sent_twice t → ⊥
  -- CLOCKS: an edge has become relevant, and has no clock
  pub drops_clock : (t : State) → t.clocks ≡ [] → Obeys bill (sent_log []) t → ⊥
  -- a clock rings before its deadline, or once more after it has rung; the log in which it rings once is one of a case
  pub rings_undue_clock : Refused bill (sent_log (took (Completion 2) [] 0 ∷ took (Ring 3) (3 ∷ []) 1 ∷ []))
  pub rings_spent_clock : Refused held (held_log (took (Ring 1) [] 0 ∷ []))
  pub rings_once : Run held alike unmoved (opening 100 no_facts) tt (held_log (idle ∷ [])) (account held (opening 100 no_facts) (held_log (idle ∷ []))) tt
