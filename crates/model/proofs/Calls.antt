-- A case is sound at its opening, and stays so at each call but a turn. Assumes nothing.
use Rattle.std.proofs.Common.{◌≡◌, ℕ, zero, suc, ◌<◌, ◌≤◌, true, cond, List, [], length, is_some, Option, ◌==◌, ◌≢◌, refl, ◌∙◌, arith}
use Rattle.std.proofs.lemmas.Bool.Decides.{nat_tests}
use Rattle.desk.specs.Orders.{look_up}
use Rattle.model.specs.declared.event.Event.{Event}
use Rattle.model.specs.declared.event.Event.TheVariants.{Completion, Termination}
use Rattle.model.specs.Choice.{total}
use Rattle.model.specs.Graph.{Graph, Rules}
use Rattle.model.specs.State.{State, Sound, can_wait, available}
use Rattle.model.specs.Calls.{latest, opening, node_of, reported, ticked}
use Rattle.model.proofs.Waiting.{Kept, reports_cons, length_put_event, all_put, reports_put, queued_put}
use Rattle.model.proofs.GivenOut.{reports, found_active}
use Rattle.model.proofs.TimedEdges.{none_relevant}

-- one token at the first node
first_few : (k : ℕ) → total (λ n. cond (n == 0) 1 0) k ≤ 1
unfolding total
first_few zero = omega arith
first_few (suc zero) = omega arith
first_few (suc (suc k)) = grind (arith, nat_tests, first_few (suc k))

module _ (c : Graph) where
  module _ (rules : Rules c) (moment : ℕ) (facts : List (Option ℕ)) where
    none_available : (n : ℕ) → n ≢ 0 → available c (opening moment facts) n ≡ 0
    none_available n h = grind (arith, nat_tests)

    pub opening_sound : moment ≤ latest → Sound c (opening moment facts)
    opening_sound h = record {
      balance = λ n l a. grind (arith, nat_tests, rules.waits_first, reports_cons n (Completion 0) []);
      idle = λ n a. (refl, refl, refl);
      clocks = λ e. grind (arith, none_relevant c rules (available c (opening moment facts)) none_available e);
      ordered = refl;
      queued = refl;
      all_can_wait = (refl, tt);
      given = tt;
      active = tt;
      rising = tt;
      tokens = omega (arith, first_few c.nodes);
      events = omega arith;
      next = omega arith;
      moment = h;
    }

  -- events are added that are no reports, and facts set
  pub waiting_sound : (s : State) (es : List Event) (facts : List (Option ℕ)) → Kept s.events es → length es ≤ 256 → Sound c s → Sound c (record s { events = es; facts = facts })
  waiting_sound s es facts w l k = record {
    balance = λ n b a. omega (arith, k.balance n b a, w.reports n);
    idle = λ n a. let i = k.idle n a in (i.0, w.reports n ∙ i.1, i.2);
    clocks = k.clocks;
    ordered = k.ordered;
    queued = w.queued k.queued;
    all_can_wait = w.all_can_wait k.all_can_wait;
    given = k.given;
    active = k.active;
    rising = k.rising;
    tokens = k.tokens;
    events = l;
    next = k.next;
    moment = k.moment;
  }

  pub ticked_sound : (s : State) (m : ℕ) → m ≤ latest → Sound c s → Sound c (ticked m s)
  ticked_sound s m l k = record {
    balance = k.balance;
    idle = k.idle;
    clocks = k.clocks;
    ordered = k.ordered;
    queued = k.queued;
    all_can_wait = k.all_can_wait;
    given = k.given;
    active = k.active;
    rising = k.rising;
    tokens = k.tokens;
    events = k.events;
    next = k.next;
    moment = l;
  }

  pub reported_sound : (s : State) (j : ℕ) → is_some (look_up j s.orders) ≡ true → length s.events < 256 → Sound c s → Sound c (reported j s)
  reported_sound s j o l k =
      let m = node_of (look_up j s.orders) in
      let ev = Termination m in
      let r = reports c s.next j s.orders k.given k.active k.rising o in
      let acts = found_active c j s.orders k.active o in
      record {
        balance = λ n b a. grind (arith, k.balance n b a, reports_put n ev s.events, r.at n);
        idle = λ n a. let i = k.idle n a in (grind (arith, i.0, r.at n), grind (arith, nat_tests, i.1, reports_put n ev s.events, acts), i.2);
        clocks = k.clocks;
        ordered = k.ordered;
        queued = queued_put ev s.events k.queued;
        all_can_wait = all_put (λ x. can_wait x ≡ true) ev s.events refl k.all_can_wait;
        given = r.under;
        active = r.active;
        rising = r.rising;
        tokens = k.tokens;
        events = omega (arith, length_put_event ev s.events);
        next = k.next;
        moment = k.moment;
      }
