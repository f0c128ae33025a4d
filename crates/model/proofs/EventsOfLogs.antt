-- Events and finished tokens from one state to a later one. Assumes nothing.
use Rattle.std.proofs.Common.{◌≡◌, ℕ, ◌+◌, ◌<◌, true, false, cond, List, [], ◌∷◌, ◌++◌, take, Some, None, Ok, Err, count_by, ap, arith}
use Rattle.std.proofs.lemmas.List.{append-nil}
use Rattle.std.proofs.lemmas.List.Sums.{sum_by-append}
use Rattle.std.proofs.lemmas.List.Concat.{flat_map-append}
use Rattle.desk.specs.Orders.{look_up}
use Rattle.model.specs.declared.event.Event.{Event}
use Rattle.model.specs.declared.event.Event.TheVariants.{Termination, Attribute, Named}
use Rattle.model.specs.declared.call.Change.TheVariants.{Changed, Unchanged}
use Rattle.model.specs.declared.call.Entry.{Entry}
use Rattle.model.specs.declared.call.Entry.TheVariants.{Post, Tell, Report, Tick, Turn}
use Rattle.model.specs.Choice.{count}
use Rattle.model.specs.Ranks.{same_event}
use Rattle.model.specs.Graph.{Graph, Rules, action, members, entered}
use Rattle.model.specs.State.{State, Sound}
use Rattle.model.specs.Steps.{routed, leaving, sent}
use Rattle.model.specs.Calls.{node_of, recorded, Answers}
use Rattle.model.specs.Entries.{event_answered, taken_by, all_taken}
use Rattle.model.specs.Accounts.{is_answer, times_answered, puts, times_put, is_send, times_sent, brings, times_brought, comes_otherwise}
use Rattle.model.proofs.Counts.{count-append}
use Rattle.model.proofs.EventCounts.{passing_put, passing_sent, passing_arrived, passing_routed, termination_is, no_termination}
use Rattle.model.proofs.Turns.{took_fairly}

module _ (c : Graph) where
  -- what came and was answered
  pub record EventsAndFinished (xs : List Entry) (s t : State) : Type 0 where
    pub events : (ev : Event) → comes_otherwise ev ≡ false
        → count_by (same_event ev) t.events + times_answered ev xs ≡ count_by (same_event ev) s.events + times_put ev xs + times_sent c ev (all_taken xs) + times_brought c ev (all_taken xs)
    pub finished : (n : ℕ) → n < c.nodes → action c n ≡ true → t.finished n + leaving c (all_taken xs) n ≡ s.finished n + times_answered (Termination n) xs

  pub events_and_finished_then : (x : Entry) (xs : List Entry) (s m t : State) → EventsAndFinished (x ∷ []) s m → EventsAndFinished xs m t → EventsAndFinished (x ∷ xs) s t
  events_and_finished_then x xs s m t a b =
      let es = all_taken (x ∷ []) in
      let all : all_taken (x ∷ xs) ≡ es ++ all_taken xs = flat_map-append taken_by (x ∷ []) xs in
      let answered = λ (ev : Event). sum_by-append (λ y. cond (is_answer ev (event_answered y)) 1 0) (x ∷ []) xs in
      record {
        events = λ ev h.
            omega (
              arith,
              a.events ev h,
              b.events ev h,
              answered ev,
              sum_by-append (λ y. cond (puts ev y) 1 0) (x ∷ []) xs,
              ap (times_sent c ev) all,
              count-append (λ e. is_send ev (c.send e)) es (all_taken xs),
              ap (times_brought c ev) all,
              ap (count (brings c ev)) (flat_map-append (λ e. members (c.target e) c.nodes) es (all_taken xs)),
              count-append (brings c ev) (entered c es) (entered c (all_taken xs)),
            );
        finished = λ n l h.
            omega (arith, a.finished n l h, b.finished n l h, answered (Termination n), ap (λ ys. leaving c ys n) all, count-append (λ e. c.source e n) es (all_taken xs));
      }

  module _ (rules : Rules c) (rank : ℕ → ℕ) (s : State) (k : Sound c s) where
    pub events_and_finished : (x : Entry) → Answers c rank s x → EventsAndFinished (x ∷ []) s (recorded c s x)
    events_and_finished (Post v (Ok u)) h = record { events = λ ev g. omega (arith, passing_put (same_event ev) (Named v) s.events); finished = λ n l a. omega arith }
    events_and_finished (Post v (Err e)) h = record { events = λ ev g. omega arith; finished = λ n l a. omega arith }
    events_and_finished (Tell a v (Ok Changed)) h = record { events = λ ev g. omega (arith, passing_put (same_event ev) (Attribute a) s.events); finished = λ n l a. omega arith }
    events_and_finished (Tell a v (Ok Unchanged)) h = record { events = λ ev g. omega arith; finished = λ n l a. omega arith }
    events_and_finished (Tell a v (Err e)) h = record { events = λ ev g. omega arith; finished = λ n l a. omega arith }
    events_and_finished (Report n (Ok u)) h =
        let m = node_of (look_up n s.orders) in
        record {
          events = λ ev g. grind (arith, passing_put (same_event ev) (Termination m) s.events, no_termination ev g m);
          finished = λ n l a. omega arith;
        }
    events_and_finished (Report n (Err e)) h = record { events = λ ev g. omega arith; finished = λ n l a. omega arith }
    events_and_finished (Tick m (Ok u)) h = record { events = λ ev g. omega arith; finished = λ n l a. omega arith }
    events_and_finished (Tick m (Err e)) h = record { events = λ ev g. omega arith; finished = λ n l a. omega arith }
    events_and_finished (Turn room (Ok None) buffer) h = record { events = λ ev g. omega arith; finished = λ n l a. omega arith }
    events_and_finished (Turn room (Ok (Some done)) buffer) h =
        let ys = take done.edges buffer in
        let f = took_fairly c rules rank s k room done buffer h.0 h.1 in
        let one : ys ++ [] ≡ ys = append-nil ys in
        record {
          events = λ ev g.
              omega (
                arith,
                passing_arrived ev c (entered c ys) (sent c ys (routed done.event s).events),
                passing_sent ev c ys (routed done.event s).events,
                passing_routed ev g s.moment s.clocks s.events done.event f.event,
                ap (times_sent c ev) one,
                ap (times_brought c ev) one,
              );
          finished = λ n l a. grind (arith, f.choice.covered n l, termination_is done.event n, ap (λ zs. leaving c zs n) one);
        }
    events_and_finished (Turn room (Err e) buffer) h = record { events = λ ev g. omega arith; finished = λ n l a. omega arith }
