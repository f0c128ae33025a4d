-- Tokens and orders from one state to a later one. Assumes nothing.
use Rattle.std.proofs.Common.{◌≡◌, ℕ, ◌+◌, ◌<◌, Bool, true, false, cond, ◌||◌, List, [], ◌++◌, length, take, Some, None, Ok, Err, Option, filter, ◌==◌, refl, sym, ap, ◌∙◌, arith}
use Rattle.std.proofs.lemmas.Bool.Decides.{nat_tests}
use Rattle.std.proofs.lemmas.List.Sums.{length-filter}
use Rattle.std.proofs.lemmas.List.Elements.{filter-append}
use Rattle.std.proofs.lemmas.List.Concat.{flat_map-append}
use Rattle.desk.specs.Orders.{look_up}
use Rattle.desk.specs.declared.Order.{Order}
use Rattle.model.specs.declared.event.Event.TheVariants.{Named}
use Rattle.model.specs.declared.call.Change.TheVariants.{Changed, Unchanged}
use Rattle.model.specs.declared.call.Entry.{Entry}
use Rattle.model.specs.declared.call.Entry.TheVariants.{Post, Tell, Report, Tick, Turn}
use Rattle.model.specs.Choice.{count}
use Rattle.model.specs.Graph.{Graph, Rules, action, members, entered}
use Rattle.model.specs.State.{State, Sound}
use Rattle.model.specs.Steps.{routed, leaving, entering}
use Rattle.model.specs.Calls.{with_fact, added, ticked, recorded, Answers}
use Rattle.model.specs.Entries.{taken_by}
use Rattle.model.specs.Accounts.{reported_in, places, given_as}
use Rattle.model.proofs.Counts.{count-append}
use Rattle.model.proofs.GivenOut.{either, either_three, either_none, opens, found_under, reports, given_none, given_append, given_before}
use Rattle.model.proofs.Movement.{routed_sound, conserved}
use Rattle.model.proofs.Turns.{took_fairly}
use Rattle.model.proofs.Rooms.{report_room}

-- an order that was open or given out, or comes to be given out
joined : (a b : Bool) (o p q : Option Order) → (a ≡ true → q ≡ None) → cond b None (either (cond a None (either o p)) q) ≡ cond (a || b) None (either o (either p q))
joined true b o p q h = grind (arith, h refl)
joined false b o p q h = ap (cond b None) (either_three o p q)

module _ (c : Graph) where
  places_append : (xs ys : List ℕ) → places c (xs ++ ys) ≡ places c xs ++ places c ys
  places_append xs ys = ap (filter (action c)) (flat_map-append (λ x. members (c.target x) c.nodes) xs ys) ∙ filter-append (action c) (entered c xs) (entered c ys)

  -- from a state to a later one: what the edges that were taken, and the reports, make of tokens and orders
  pub record TokensAndOrders (xs : List ℕ) (was : ℕ → Bool) (s t : State) : Type 0 where
    pub tokens : (n : ℕ) → n < c.nodes → t.tokens n + leaving c xs n ≡ s.tokens n + entering c xs n
    pub next : t.next ≡ s.next + count (action c) (entered c xs)
    pub orders : (j : ℕ) → look_up j t.orders ≡ cond (was j) None (either (look_up j s.orders) (given_as c s.next (places c xs) j))

  pub tokens_and_orders_same : (s t : State) → t.tokens ≡ s.tokens → t.next ≡ s.next → t.orders ≡ s.orders → TokensAndOrders [] (λ j. false) s t
  tokens_and_orders_same s t a b d = record {
    tokens = λ n l. ap (λ f. f n + 0) a;
    next = omega (arith, b);
    orders = λ j. ap (look_up j) d ∙ sym (ap (either (look_up j s.orders)) (given_none c s.next j) ∙ either_none (look_up j s.orders));
  }

  pub tokens_and_orders_then : (xs ys : List ℕ) (p q : ℕ → Bool) (s m t : State) → ((j : ℕ) → p j ≡ true → j < s.next) → TokensAndOrders xs p s m → TokensAndOrders ys q m t → TokensAndOrders (xs ++ ys) (λ j. p j || q j) s t
  tokens_and_orders_then xs ys p q s m t known a b =
      let all = flat_map-append (λ x. members (c.target x) c.nodes) xs ys in
      let low : s.next + length (places c xs) ≡ m.next = omega (arith, a.next, length-filter (action c) (entered c xs)) in
      record {
        tokens = λ n l. omega (arith, a.tokens n l, b.tokens n l, count-append (λ e. c.source e n) xs ys, count-append (λ e. c.target e n) xs ys);
        next = omega (arith, a.next, b.next, ap (count (action c)) all, count-append (action c) (entered c xs) (entered c ys));
        orders = λ j.
            let g : given_as c s.next (places c (xs ++ ys)) j ≡ either (given_as c s.next (places c xs) j) (given_as c m.next (places c ys) j) =
            ap (λ l. given_as c s.next l j) (places_append xs ys) ∙ given_append c s.next (places c xs) (places c ys) j
            ∙ ap (λ v. either (given_as c s.next (places c xs) j) (given_as c v (places c ys) j)) low in
            let before : p j ≡ true → given_as c m.next (places c ys) j ≡ None = λ h. given_before c m.next (places c ys) j (omega (arith, known j h, a.next)) in
            b.orders j ∙ ap (λ v. cond (q j) None (either v (given_as c m.next (places c ys) j))) (a.orders j)
            ∙ joined (p j) (q j) (look_up j s.orders) (given_as c s.next (places c xs) j) (given_as c m.next (places c ys) j) before
            ∙ ap (λ v. cond (p j || q j) None (either (look_up j s.orders) v)) (sym g);
      }

  module _ (rules : Rules c) (rank : ℕ → ℕ) (s : State) (k : Sound c s) where
    pub tokens_and_orders : (x : Entry) → Answers c rank s x → TokensAndOrders (taken_by x) (λ j. reported_in j x) s (recorded c s x)
    tokens_and_orders (Post v (Ok u)) h = tokens_and_orders_same s (added (Named v) s) refl refl refl
    tokens_and_orders (Post v (Err e)) h = tokens_and_orders_same s s refl refl refl
    tokens_and_orders (Tell a v (Ok Changed)) h = tokens_and_orders_same s (with_fact a v s) refl refl refl
    tokens_and_orders (Tell a v (Ok Unchanged)) h = tokens_and_orders_same s s refl refl refl
    tokens_and_orders (Tell a v (Err e)) h = tokens_and_orders_same s s refl refl refl
    tokens_and_orders (Report n (Ok u)) h =
        let r = reports c s.next n s.orders k.given k.active k.rising (report_room s n u h).0 in
        record {
          tokens = λ m l. refl;
          next = omega arith;
          orders = λ j. r.found j ∙ ap (cond (n == j) None) (sym (ap (either (look_up j s.orders)) (given_none c s.next j) ∙ either_none (look_up j s.orders)));
        }
    tokens_and_orders (Report n (Err e)) h = tokens_and_orders_same s s refl refl refl
    tokens_and_orders (Tick m (Ok u)) h = tokens_and_orders_same s (ticked m s) refl refl refl
    tokens_and_orders (Tick m (Err e)) h = tokens_and_orders_same s s refl refl refl
    tokens_and_orders (Turn room (Ok None) buffer) h = tokens_and_orders_same s s refl refl refl
    tokens_and_orders (Turn room (Ok (Some done)) buffer) h =
        let ys = take done.edges buffer in
        let f = took_fairly c rules rank s k room done buffer h.0 h.1 in
        let now = routed_sound c rules s done.event f.event k in
        record {
          tokens = conserved c (routed done.event s) ys now f.choice.covered;
          next = refl;
          orders = (opens c s.next (entered c ys) s.orders k.given k.active k.rising).found;
        }
    tokens_and_orders (Turn room (Err e) buffer) h = tokens_and_orders_same s s refl refl refl

    -- only orders that were given out are reported
    pub known : (x : Entry) → Answers c rank s x → (j : ℕ) → reported_in j x ≡ true → j < s.next
    known (Post v r) h j e = absurd (grind arith)
    known (Tell a v r) h j e = absurd (grind arith)
    known (Report n (Ok u)) h j e =
        let same : n ≡ j = grind (arith, nat_tests) in
        omega (arith, same, found_under n s.next s.orders k.given (report_room s n u h).0)
    known (Report n (Err f)) h j e = absurd (grind arith)
    known (Tick m r) h j e = absurd (grind arith)
    known (Turn room r buffer) h j e = absurd (grind arith)
