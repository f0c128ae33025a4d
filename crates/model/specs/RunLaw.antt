-- What holds of every run of a case from its opening, by the log alone. Assumes nothing.
use Rattle.std.specs.Prelude.{◌≡◌, ℕ, suc, ◌+◌, ◌<◌, ◌≤◌, true, false, cond, List, length, take, Some, None, Ok, Err, Option, Result, ◌==◌, map, count_by, slice_get, slice_index_or}
use Rattle.desk.specs.Orders.{look_up, Ascending}
use Rattle.policy.specs.Told.{Told}
use Rattle.model.specs.declared.event.Event.{Event}
use Rattle.model.specs.declared.event.Event.TheVariants.{Completion, Termination}
use Rattle.model.specs.declared.refusal.Refusal.{Refusal}
use Rattle.model.specs.declared.refusal.Refusal.TheVariants.{ShortBuffer}
use Rattle.model.specs.declared.call.Call.{Call}
use Rattle.model.specs.declared.call.Routed.{Routed}
use Rattle.model.specs.declared.call.Entry.{Entry}
use Rattle.model.specs.declared.call.Entry.TheVariants.{Post, Tell, Report, Tick, Turn}
use Rattle.model.specs.Choice.{count, total}
use Rattle.model.specs.ChoiceLaw.{Law}
use Rattle.model.specs.Ranks.{same_event}
use Rattle.model.specs.Graph.{Graph, action, entered, timed}
use Rattle.model.specs.ClockLaws.{Counted}
use Rattle.model.specs.State.{State, Sound, orders_at, reports_at, relevant_to}
use Rattle.model.specs.Steps.{event_of, routed, basis, leaving, entering, new_orders, moved, overflow}
use Rattle.model.specs.Calls.{latest, opening, post_answer, tell_answer, report_answer, tick_answer, Answers, Run}
use Rattle.model.specs.Entries.{call_of, taken_by, all_taken, event_answered, HasBuffer}
use Rattle.model.specs.Accounts.{account, was_reported, order_of, last_told, last_ticked, times_answered, times_put, times_sent, times_brought, comes_otherwise}

module _ (c : Graph) (rank : ℕ → ℕ) (a : State) where
  -- what may be taken on an event: only copies that are enabled, which can leave together; and each enabled copy left out has a source all of whose
  -- tokens are used by copies that come no later
  abbrev pub MayTake : Event → List ℕ → Type 0
  MayTake ev ys = Law (basis c ev (routed ev a)) rank ys

  -- a turn that took an event: the one that the account finds; the buffer begins with the edges
  pub record FairTurn (done : Routed) (ys : List ℕ) : Type 0 where
    pub event : event_of a ≡ Some done.event
    pub edges : length ys ≡ done.edges
    pub choice : MayTake done.event ys
    pub orders : done.orders ≡ new_orders c ys
    pub fits : overflow c (moved c ys (routed done.event a)) ≡ None
    -- there are 64 tokens at most
    pub few_edges : done.edges ≤ 64
    pub few_orders : done.orders ≤ 64

  -- a turn that was refused: what it might have taken is too much
  pub record FairRefusal (e : Refusal) : Type 0 where
    pub event : Event
    pub edges : List ℕ
    pub found : event_of a ≡ Some event
    pub choice : MayTake event edges
    pub over : overflow c (moved c edges (routed event a)) ≡ Some e

  abbrev pub Routes : Result (Option Routed) Refusal → List ℕ → Type 0
  Routes (Ok None) buffer = event_of a ≡ None
  Routes (Ok (Some done)) buffer = FairTurn done (take done.edges buffer)
  Routes (Err e) buffer = FairRefusal e

  -- an entry, by the account before it and the ranks just before it
  abbrev pub Fair : Entry → Type 0
  Fair (Post v r) = r ≡ post_answer a v
  Fair (Tell b v r) = r ≡ tell_answer a b v
  Fair (Report n r) = r ≡ report_answer a n
  Fair (Tick m r) = r ≡ tick_answer a m
  Fair (Turn room r buffer) = (room < 64 → r ≡ Err ShortBuffer) × (64 ≤ room → Routes r buffer)

module _ (c : Graph) {P : Type 0} (rank : P → ℕ → ℕ) (moves : P → ℕ → P → Type 0) where
  -- the policy before and after an entry, and the entry
  pub record FairEntry (a : State) (p : P) (x : Entry) (q : P) : Type 0 where
    pub answer : Fair c (rank p) a x
    -- the policy was told of exactly the edges taken, in order; so it is unchanged where none was taken
    pub told : Told moves p (taken_by x) q

  -- a log since an opening at a moment, with the facts of that time; the policy p then and q now, and the case t now
  pub record RunLaw (moment : ℕ) (facts : List (Option ℕ)) (p : P) (xs : List Entry) (t : State) (q : P) : Type 0 where
    -- the policy before each call
    pub policy : ℕ → P
    pub first : policy 0 ≡ p
    pub last : policy (length xs) ≡ q
    -- each entry is fair
    pub fair : (k : ℕ) (x : Entry) → slice_get xs k ≡ Some x → FairEntry (account c (opening moment facts) (take k xs)) (policy k) x (policy (suc k))
    -- the case is as the account has it
    pub agrees : t ≡ account c (opening moment facts) xs
    -- each node has as many tokens as edges entered it less those that left it, the first node one more
    pub tokens : (n : ℕ) → n < c.nodes → t.tokens n + leaving c (all_taken xs) n ≡ cond (n == 0) 1 0 + entering c (all_taken xs) n
    -- each token of an action node has an open order, or a report that waits, or is finished
    pub balance : (n : ℕ) → n < c.nodes → action c n ≡ true → t.tokens n ≡ orders_at n t.orders + reports_at n t.events + t.finished n
    -- each termination that a turn answered made a token finished, until an edge took it
    pub finished : (n : ℕ) → n < c.nodes → action c n ≡ true → t.finished n + leaving c (all_taken xs) n ≡ times_answered (Termination n) xs
    pub none_finished : (n : ℕ) → action c n ≡ false → t.finished n ≡ 0
    -- any other event but a ring: at the opening, the completion of the first node; each that was put, by calls, sends and arrivals, waits or was answered
    pub events : (ev : Event) → comes_otherwise ev ≡ false
        → count_by (same_event ev) t.events + times_answered ev xs ≡ cond (same_event ev (Completion 0)) 1 0 + times_put ev xs + times_sent c ev (all_taken xs) + times_brought c ev (all_taken xs)
    -- numbers are given out from 1 on, one for each action node entered; open are those given out and not reported, each once
    pub next : t.next ≡ 1 + count (action c) (entered c (all_taken xs))
    pub orders : (j : ℕ) → look_up j t.orders ≡ cond (was_reported xs j) None (order_of c xs j)
    pub once : Ascending t.orders
    -- each timed edge has as many clocks, running or spent, as it is relevant
    pub clocks : Counted (timed c) (relevant_to c t) t.clocks
    -- each attribute has the value that it was told last, else that of the opening; the moment is that of the last tick, else that of the opening
    pub told : (b : ℕ) → b < length facts → slice_index_or t.facts b None ≡ last_told b (slice_index_or facts b None) xs
    pub now : t.moment ≡ last_ticked moment xs
    -- and the case is sound before each call: tokens and clocks balance, queues stand in order, and no bound is passed
    pub always : (k : ℕ) → Sound c (account c (opening moment facts) (take k xs))
    pub few_tokens : total t.tokens c.nodes ≤ 64
    pub few_events : length t.events ≤ 256
    pub few_orders : t.next ≤ 65536
    pub in_time : t.moment ≤ latest

-- any calls, refused ones among them, from any opening that is not refused; by any policy, by its ranks and how it is told
abbrev pub LawOfRuns : {P : Type 0} → Graph → (P → ℕ → ℕ) → (P → ℕ → P → Type 0) → Type 0
LawOfRuns {P} c rank moves = (moment : ℕ) (facts : List (Option ℕ)) (p : P) (xs : List Entry) (t : State) (q : P)
    → moment ≤ latest → Run c rank moves (opening moment facts) p xs t q → RunLaw c rank moves moment facts p xs t q

-- of two logs of the same calls since the same opening, with the same policy values, each turn has the same event and the same edges
abbrev pub Decides : {P : Type 0} → (P → ℕ → ℕ) → (P → ℕ → P → Type 0) → Type 0
Decides {P} rank moves = (c : Graph) (moment : ℕ) (facts : List (Option ℕ)) (p q r : P) (xs ys : List Entry) (t u : State)
    (one : RunLaw c rank moves moment facts p xs t q) (other : RunLaw c rank moves moment facts p ys u r)
    → map call_of xs ≡ map call_of ys → ((k : ℕ) → k < length xs → one.policy k ≡ other.policy k)
    → (map event_answered xs ≡ map event_answered ys) × (map taken_by xs ≡ map taken_by ys) × (t ≡ u)

-- on every sound case each call has an answer
abbrev pub GoesOn : Graph → Type 0
GoesOn c = (rank : ℕ → ℕ) (s : State) → Sound c s → (x : Call) → (y : Entry) × (call_of y ≡ x) × HasBuffer y × Answers c rank s y
