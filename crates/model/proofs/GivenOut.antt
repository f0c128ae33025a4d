-- The orders that are given out. Assumes nothing.
use Rattle.std.proofs.Common.{◌≡◌, ℕ, suc, ◌+◌, ◌-◌, ◌<◌, ◌≤◌, true, cond, List, [], ◌∷◌, ◌++◌, is_some, Some, None, Option, filter, ◌==◌, length, refl, ap, ◌∙◌, sym, ⊎_elim, arith}
use Rattle.std.specs.List.{AllByRecursion}
use Rattle.std.proofs.ByRecursion.{All-weaker}
use Rattle.std.proofs.lemmas.Bool.{cases_Bool}
use Rattle.std.proofs.lemmas.Bool.Decides.{nat_tests}
use Rattle.std.proofs.lemmas.List.Sums.{sum_by-cons}
use Rattle.desk.specs.declared.Order.{Order}
use Rattle.desk.specs.Orders.{inserted, look_up, without, Above, Ascending}
use Rattle.desk.specs.OrderLaws.{look_up-inserted, look_up-inserted_other, ascending_inserted, absent_above}
use Rattle.model.specs.Choice.{count}
use Rattle.model.specs.Graph.{Graph, action}
use Rattle.model.specs.State.{orders_at}
use Rattle.model.specs.Steps.{order_for, number_in, opened}
use Rattle.model.specs.Calls.{node_of}
use Rattle.model.specs.Accounts.{given_as}
use Rattle.model.proofs.Counts.{count-cons}

-- numbers below k
abbrev pub Under : ℕ → List Order → Type 0
Under k os = AllByRecursion (λ o. o.number < k) os

-- the activity of the node
abbrev pub Active : Graph → List Order → Type 0
Active c os = AllByRecursion (λ o. c.activity o.node ≡ Some o.activity) os

-- the first of two that is there
abbrev pub either : Option Order → Option Order → Option Order
either None p = p
either (Some o) p = Some o

pub orders_cons : (n : ℕ) (o : Order) (os : List Order) → orders_at n (o ∷ os) ≡ cond (o.node == n) 1 0 + orders_at n os
orders_cons n o os = sum_by-cons (λ x. cond (x.node == n) 1 0) o os

all_inserted : (P : Order → Type 0) (o : Order) (os : List Order) → P o → AllByRecursion P os → AllByRecursion P (inserted o os)
all_inserted P o [] h a = (h, tt)
all_inserted P o (x ∷ xs) h a = grind (arith, all_inserted P o xs)

under_more : (j k : ℕ) (os : List Order) → j ≤ k → Under j os → Under k os
under_more j k os h a = All-weaker (λ o. o.number < j) (λ o. o.number < k) (λ o l. omega arith) os a

absent : (k : ℕ) (os : List Order) → Under k os → look_up k os ≡ None
absent k [] a = refl
absent k (x ∷ xs) a = grind (arith, nat_tests, absent k xs)

orders_inserted : (n : ℕ) (o : Order) (os : List Order) → orders_at n (inserted o os) ≡ cond (o.node == n) 1 0 + orders_at n os
orders_inserted n o [] = orders_cons n o []
orders_inserted n o (x ∷ xs) = grind (arith, orders_inserted n o xs, orders_cons n o (x ∷ xs), orders_cons n x xs, orders_cons n x (inserted o xs))

pub either_none : (o : Option Order) → either o None ≡ o
either_none None = refl
either_none (Some o) = refl

pub either_three : (o p q : Option Order) → either (either o p) q ≡ either o (either p q)
either_three None p q = refl
either_three (Some o) p q = refl

under_inserted : (c : Graph) (k n : ℕ) (os : List Order) → Under k os → Under (k + 1) (inserted (order_for c k n) os)
under_inserted c k n os a = all_inserted (λ o. o.number < k + 1) (order_for c k n) os (omega arith) (under_more k (k + 1) os (omega arith) a)

active_number : (o : Option ℕ) → is_some o ≡ true → o ≡ Some (number_in o)
active_number None h = absurd (grind arith)
active_number (Some v) h = refl

module _ (c : Graph) where
  -- OPENING

  -- what is there once numbers were given out from k on, one for each action node of ns
  pub record Opens (k : ℕ) (ns : List ℕ) (os ps : List Order) : Type 0 where
    pub under : Under (k + count (action c) ns) ps
    pub active : Active c ps
    pub rising : Ascending ps
    pub at : (n : ℕ) → orders_at n ps ≡ orders_at n os + cond (action c n) (count (λ m. m == n) ns) 0
    pub found : (j : ℕ) → look_up j ps ≡ either (look_up j os) (given_as c k (filter (action c) ns) j)

  pub given_none : (k j : ℕ) → given_as c k [] j ≡ None
  given_none k j = grind arith

  pub given_before : (k : ℕ) (ns : List ℕ) (j : ℕ) → j < k → given_as c k ns j ≡ None
  given_before k ns j h = grind (arith, nat_tests)

  given_here : (k n : ℕ) (ns : List ℕ) → given_as c k (n ∷ ns) k ≡ Some (order_for c k n)
  given_here k n ns = let z : k - k ≡ 0 = omega arith in rw z (grind (arith, nat_tests))

  given_later : (k n : ℕ) (ns : List ℕ) (j : ℕ) → k < j → given_as c k (n ∷ ns) j ≡ given_as c (k + 1) ns j
  given_later k n ns j h = let z : j - k ≡ suc (j - (k + 1)) = omega arith in rw z (grind (arith, nat_tests))

  given_first : (k n : ℕ) (ns : List ℕ) (j : ℕ) → given_as c k (n ∷ ns) j ≡ either (cond (k == j) (Some (order_for c k n)) None) (given_as c (k + 1) ns j)
  given_first k n ns j = grind (arith, nat_tests, given_before k (n ∷ ns) j, given_before (k + 1) ns j, given_here k n ns, given_later k n ns j)

  found_inserted : (k n : ℕ) (os : List Order) (j : ℕ) → Under k os → look_up j (inserted (order_for c k n) os) ≡ either (look_up j os) (cond (k == j) (Some (order_for c k n)) None)
  found_inserted k n os j a =
      let o = order_for c k n in
      grind (arith, nat_tests, absent k os a, look_up-inserted o os, look_up-inserted_other j o os, either_none (look_up j os))

  pub opens : (k : ℕ) (ns : List ℕ) (os : List Order) → Under k os → Active c os → Ascending os → Opens k ns os (opened c k ns os)
  opens k [] os a b r = record {
    under = under_more k (k + 0) os (omega arith) a;
    active = b;
    rising = r;
    at = λ n. grind arith;
    found = λ j. sym (ap (either (look_up j os)) (given_none k j) ∙ either_none (look_up j os));
  }
  opens k (n ∷ ns) os a b r =
      ⊎_elim
      (λ q.
      let o = order_for c k n in
      let ps = inserted o os in
      let kept : filter (action c) (n ∷ ns) ≡ n ∷ filter (action c) ns = rw q in
      let rest = opens (k + 1) ns ps (under_inserted c k n os a) (all_inserted (λ x. c.activity x.node ≡ Some x.activity) o os (active_number (c.activity n) q) b)
      (ascending_inserted o os (absent k os a) r) in
      rw q (record {
        under = under_more (k + 1 + count (action c) ns) (k + count (action c) (n ∷ ns)) (opened c (k + 1) ns ps) (grind (arith, count-cons (action c) n ns)) rest.under;
        active = rest.active;
        rising = rest.rising;
        at = λ m. grind (arith, nat_tests, rest.at m, orders_inserted m o os, count-cons (λ x. x == m) n ns);
        found = λ j. rest.found j ∙ ap (λ v. either v (given_as c (k + 1) (filter (action c) ns) j)) (found_inserted k n os j a)
            ∙ either_three (look_up j os) _ _ ∙ ap (either (look_up j os)) (sym (given_first k n (filter (action c) ns) j) ∙ ap (λ l. given_as c k l j) (sym kept));
      }))
      (λ q.
      let kept : filter (action c) (n ∷ ns) ≡ filter (action c) ns = rw q in
      let rest = opens k ns os a b r in
      rw q (record {
        under = under_more (k + count (action c) ns) (k + count (action c) (n ∷ ns)) (opened c k ns os) (grind (arith, count-cons (action c) n ns)) rest.under;
        active = rest.active;
        rising = rest.rising;
        at = λ m. grind (arith, nat_tests, rest.at m, count-cons (λ x. x == m) n ns);
        found = λ j. rest.found j ∙ ap (λ l. either (look_up j os) (given_as c k l j)) (sym kept);
      }))
      (cases_Bool (action c n))

  -- GIVING OUT IN TURN
  pub given_append : (k : ℕ) (ms ns : List ℕ) (j : ℕ) → given_as c k (ms ++ ns) j ≡ either (given_as c k ms j) (given_as c (k + length ms) ns j)
  given_append k [] ns j = grind arith
  given_append k (m ∷ ms) ns j =
      let e : k + 1 + length ms ≡ k + suc (length ms) = omega arith in
      given_first k m (ms ++ ns) j ∙ ap (either (cond (k == j) (Some (order_for c k m)) None)) (given_append (k + 1) ms ns j ∙ rw e)
      ∙ sym (either_three (cond (k == j) (Some (order_for c k m)) None) (given_as c (k + 1) ms j) (given_as c (k + suc (length ms)) ns j))
      ∙ ap (λ v. either v (given_as c (k + suc (length ms)) ns j)) (sym (given_first k m ms j))

-- REPORTING

all_without : (P : Order → Type 0) (n : ℕ) (os : List Order) → AllByRecursion P os → AllByRecursion P (without n os)
all_without P n [] a = tt
all_without P n (x ∷ xs) a = grind (arith, all_without P n xs)

above_less : (a b : ℕ) (os : List Order) → a < b → Above b os → Above a os
above_less a b [] h r = tt
above_less a b (x ∷ xs) h r = omega arith

above_without : (a n : ℕ) (os : List Order) → Ascending os → Above a os → Above a (without n os)
above_without a n [] r h = tt
above_without a n (x ∷ xs) r h = grind (arith, nat_tests, above_less a x.number xs)

rising_without : (n : ℕ) (os : List Order) → Ascending os → Ascending (without n os)
rising_without n [] r = tt
rising_without n (x ∷ xs) r = grind (arith, nat_tests, above_without x.number n xs, rising_without n xs)

-- one order less at its node
orders_without : (m n : ℕ) (os : List Order) → is_some (look_up n os) ≡ true → orders_at m os ≡ orders_at m (without n os) + cond (node_of (look_up n os) == m) 1 0
orders_without m n [] h = absurd (grind arith)
orders_without m n (x ∷ xs) h = grind (arith, nat_tests, orders_without m n xs, orders_cons m x xs, orders_cons m x (without n xs))

found_without : (j n : ℕ) (os : List Order) → Ascending os → look_up j (without n os) ≡ cond (n == j) None (look_up j os)
found_without j n [] r = grind arith
found_without j n (x ∷ xs) r = grind (arith, nat_tests, found_without j n xs, absent_above n xs)

-- a number that was found was given out
pub found_under : (j k : ℕ) (os : List Order) → Under k os → is_some (look_up j os) ≡ true → j < k
found_under j k [] a h = absurd (grind arith)
found_under j k (x ∷ xs) a h = grind (arith, nat_tests, found_under j k xs)

-- what is there once an order was reported
pub record Reports (c : Graph) (k n : ℕ) (os ps : List Order) : Type 0 where
  pub under : Under k ps
  pub active : Active c ps
  pub rising : Ascending ps
  pub at : (m : ℕ) → orders_at m os ≡ orders_at m ps + cond (node_of (look_up n os) == m) 1 0
  pub found : (j : ℕ) → look_up j ps ≡ cond (n == j) None (look_up j os)

pub reports : (c : Graph) (k n : ℕ) (os : List Order) → Under k os → Active c os → Ascending os → is_some (look_up n os) ≡ true → Reports c k n os (without n os)
reports c k n os a b r h = record {
  under = all_without (λ o. o.number < k) n os a;
  active = all_without (λ o. c.activity o.node ≡ Some o.activity) n os b;
  rising = rising_without n os r;
  at = λ m. orders_without m n os h;
  found = λ j. found_without j n os r;
}

-- an order that is found stands in the list
pub found_active : (c : Graph) (n : ℕ) (os : List Order) → Active c os → is_some (look_up n os) ≡ true → action c (node_of (look_up n os)) ≡ true
found_active c n [] b h = absurd (grind arith)
found_active c n (x ∷ xs) b h = grind (arith, nat_tests, found_active c n xs)
