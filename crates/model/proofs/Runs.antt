-- What holds of a whole run. Assumes nothing.
use Rattle.std.proofs.Common.{◌≡◌, ℕ, zero, suc, ◌<◌, ◌≤◌, true, List, [], ◌∷◌, length, take, Some, None, Ok, Err, Option, slice_get, slice_set, refl, sym, ap, ◌∙◌, subst, arith}
use Rattle.bag.specs.Records.{put_in}
use Rattle.model.specs.declared.event.Event.TheVariants.{Attribute, Named}
use Rattle.model.specs.declared.call.Change.TheVariants.{Changed, Unchanged}
use Rattle.model.specs.declared.call.Entry.{Entry}
use Rattle.model.specs.declared.call.Entry.TheVariants.{Post, Tell, Report, Tick, Turn}
use Rattle.model.specs.Ranks.{event_before}
use Rattle.model.specs.Graph.{Graph, Rules}
use Rattle.model.specs.State.{State, Sound}
use Rattle.model.specs.Steps.{routed}
use Rattle.model.specs.Calls.{latest, opening, recorded, Answers, Run}
use Rattle.model.specs.Calls.Run.{done as ended, next as further}
use Rattle.model.specs.Entries.{taken_by, all_taken}
use Rattle.model.specs.Accounts.{account, reported_in, was_reported}
use Rattle.model.specs.RunLaw.{Fair, FairEntry, RunLaw, LawOfRuns}
use Rattle.model.proofs.Waiting.{kept_put, length_put_event}
use Rattle.model.proofs.Calls.{opening_sound, waiting_sound, ticked_sound, reported_sound}
use Rattle.model.proofs.Movement.{routed_sound, moved_sound}
use Rattle.model.proofs.Turns.{short_buffer, turn_routes, took_fairly}
use Rattle.model.proofs.Rooms.{post_room, tell_room, report_room, tick_room}
use Rattle.model.proofs.TokensAndOrders.{TokensAndOrders, tokens_and_orders_same, tokens_and_orders_then, tokens_and_orders, known}
use Rattle.model.proofs.FactsAndMoments.{FactsAndMoment, facts_and_moment_then, facts_and_moment}
use Rattle.model.proofs.EventsOfLogs.{EventsAndFinished, events_and_finished_then, events_and_finished}

module _ (c : Graph) where
  -- a call keeps a case sound, and is fair
  module _ (rules : Rules c) (rank : ℕ → ℕ) (s : State) (k : Sound c s) where
    kept : (x : Entry) → Answers c rank s x → Sound c (recorded c s x)
    kept (Post v (Ok u)) h =
        let es = put_in event_before (Named v) s.events in
        waiting_sound c s es s.facts (kept_put (Named v) s.events refl (λ n. refl)) (omega (arith, length_put_event (Named v) s.events, post_room s v u h)) k
    kept (Post v (Err e)) h = k
    kept (Tell a v (Ok Changed)) h =
        let es = put_in event_before (Attribute a) s.events in
        waiting_sound c s es (slice_set s.facts a v) (kept_put (Attribute a) s.events refl (λ n. refl)) (omega (arith, length_put_event (Attribute a) s.events, tell_room s a v h)) k
    kept (Tell a v (Ok Unchanged)) h = k
    kept (Tell a v (Err e)) h = k
    kept (Report n (Ok u)) h = let r = report_room s n u h in reported_sound c s n r.0 r.1 k
    kept (Report n (Err e)) h = k
    kept (Tick m (Ok u)) h = ticked_sound c s m (tick_room s m u h) k
    kept (Tick m (Err e)) h = k
    kept (Turn room (Ok None) buffer) h = k
    kept (Turn room (Ok (Some done)) buffer) h =
        let f = took_fairly c rules rank s k room done buffer h.0 h.1 in
        moved_sound c rules (routed done.event s) (take done.edges buffer) (routed_sound c rules s done.event f.event k) f.choice.covered f.fits
    kept (Turn room (Err e) buffer) h = k

    fair : (x : Entry) → Answers c rank s x → Fair c rank s x
    fair (Post v r) h = h
    fair (Tell a v r) h = h
    fair (Report n r) h = h
    fair (Tick m r) h = h
    fair (Turn room r buffer) h = (short_buffer c rules rank s k room r h.0, turn_routes c rules rank s k room r buffer h.0 h.1)

  -- ONE CALL AFTER ANOTHER

  module _ {P : Type 0} (rank : P → ℕ → ℕ) (moves : P → ℕ → P → Type 0) where
    -- what a run from any state comes to
    record RunFrom (s : State) (p : P) (xs : List Entry) (t : State) (q : P) : Type 0 where
      pub policy : ℕ → P
      pub first : policy 0 ≡ p
      pub last : policy (length xs) ≡ q
      pub fair : (k : ℕ) (x : Entry) → slice_get xs k ≡ Some x → FairEntry c rank moves (account c s (take k xs)) (policy k) x (policy (suc k))
      pub agrees : t ≡ account c s xs
      pub tokens_and_orders : TokensAndOrders c (all_taken xs) (was_reported xs) s t
      pub facts_and_moment : FactsAndMoment c xs s t
      pub events_and_finished : EventsAndFinished c xs s t
      pub sound : Sound c t
      pub always : (k : ℕ) → Sound c (account c s (take k xs))

    none_yet : (s : State) (p : P) → Sound c s → RunFrom s p [] s p
    none_yet s p k = record {
      policy = λ _. p;
      first = refl;
      last = refl;
      fair = λ i x h. absurd (grind arith);
      agrees = refl;
      tokens_and_orders = tokens_and_orders_same c s s refl refl refl;
      facts_and_moment = record { width = refl; facts = λ b l. refl; moment = refl };
      events_and_finished = record { events = λ ev h. omega arith; finished = λ n l a. omega arith };
      sound = k;
      always = always;
    }
      where
        always : (i : ℕ) → Sound c (account c s (take i []))
        always zero = k
        always (suc i) = k

    one_more : (s m t : State) (p q r : P) (x : Entry) (xs : List Entry) → m ≡ recorded c s x → Sound c s → FairEntry c rank moves s p x q → TokensAndOrders c (taken_by x) (λ j. reported_in j x) s m
        → ((j : ℕ) → reported_in j x ≡ true → j < s.next) → FactsAndMoment c (x ∷ []) s m → EventsAndFinished c (x ∷ []) s m → RunFrom m q xs t r → RunFrom s p (x ∷ xs) t r
    one_more s m t p q r x xs after k now a known b d rest = record {
      policy = policies;
      first = refl;
      last = rest.last;
      fair = fairs;
      agrees = rest.agrees ∙ ap (λ z. account c z xs) after;
      tokens_and_orders = tokens_and_orders_then c (taken_by x) (all_taken xs) (λ j. reported_in j x) (was_reported xs) s m t known a rest.tokens_and_orders;
      facts_and_moment = facts_and_moment_then c x xs s m t b rest.facts_and_moment;
      events_and_finished = events_and_finished_then c x xs s m t d rest.events_and_finished;
      sound = rest.sound;
      always = always;
    }
      where
        policies : ℕ → P
        policies zero = p
        policies (suc i) = rest.policy i

        fairs : (i : ℕ) (y : Entry) → slice_get (x ∷ xs) i ≡ Some y → FairEntry c rank moves (account c s (take i (x ∷ xs))) (policies i) y (policies (suc i))
        fairs zero y h =
            let same : x ≡ y = cc in
            subst (λ z. FairEntry c rank moves s p z (rest.policy 0)) same (subst (FairEntry c rank moves s p x) (sym rest.first) now)
        fairs (suc i) y h = subst (λ z. FairEntry c rank moves (account c z (take i xs)) (rest.policy i) y (rest.policy (suc i))) after (rest.fair i y h)

        always : (i : ℕ) → Sound c (account c s (take i (x ∷ xs)))
        always zero = k
        always (suc i) = subst (λ z. Sound c (account c z (take i xs))) after (rest.always i)

    run_from : {s t : State} {p q : P} {xs : List Entry} → Rules c → Sound c s → Run c rank moves s p xs t q → RunFrom s p xs t q
    run_from {s} {p = p} rules k ended = none_yet s p k
    run_from rules k (further {s = s} {t = m} {u = t} {p = p} {q = q} {r = r} {x = x} {xs = xs} h hs) =
        let now : Sound c m = subst (Sound c) (sym h.after) (kept rules (rank p) s k x h.answer) in
        let a : TokensAndOrders c (taken_by x) (λ j. reported_in j x) s m = subst (TokensAndOrders c (taken_by x) (λ j. reported_in j x) s) (sym h.after) (tokens_and_orders c rules (rank p) s k x h.answer) in
        let b : FactsAndMoment c (x ∷ []) s m = subst (FactsAndMoment c (x ∷ []) s) (sym h.after) (facts_and_moment c (rank p) s x h.answer) in
        let d : EventsAndFinished c (x ∷ []) s m = subst (EventsAndFinished c (x ∷ []) s) (sym h.after) (events_and_finished c rules (rank p) s k x h.answer) in
        one_more s m t p q r x xs h.after k (record { answer = fair rules (rank p) s k x h.answer; told = h.told }) a (known c rules (rank p) s k x h.answer) b d (run_from rules now hs)

    whole : Rules c → (moment : ℕ) (facts : List (Option ℕ)) (p : P) (xs : List Entry) (t : State) (q : P) → moment ≤ latest → Run c rank moves (opening moment facts) p xs t q
        → RunLaw c rank moves moment facts p xs t q
    whole rules moment facts p xs t q l h =
        let told = run_from rules (opening_sound c rules moment facts l) h in
        record {
          policy = told.policy;
          first = told.first;
          last = told.last;
          fair = told.fair;
          agrees = told.agrees;
          tokens = told.tokens_and_orders.tokens;
          balance = told.sound.balance;
          finished = λ n b a. omega (arith, told.events_and_finished.finished n b a);
          none_finished = λ n a. (told.sound.idle n a).2;
          events = λ ev g. omega (arith, told.events_and_finished.events ev g);
          next = told.tokens_and_orders.next;
          orders = told.tokens_and_orders.orders;
          once = told.sound.rising;
          clocks = told.sound.clocks;
          told = told.facts_and_moment.facts;
          now = told.facts_and_moment.moment;
          always = told.always;
          few_tokens = told.sound.tokens;
          few_events = told.sound.events;
          few_orders = told.sound.next;
          in_time = told.sound.moment;
        }

-- for every chart that meets the rules, and every policy
pub law_of_runs : {P : Type 0} (c : Graph) (rank : P → ℕ → ℕ) (moves : P → ℕ → P → Type 0) → Rules c → LawOfRuns c rank moves
law_of_runs c rank moves rules moment facts p xs t q l h = whole c rank moves rules moment facts p xs t q l h
