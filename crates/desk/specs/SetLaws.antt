-- Orders kept in any sequence or in two lists, and the set that they are. Assumes nothing.
use Rattle.std.specs.Prelude.{◌≡◌, ℕ, ◌+◌, ◌<◌, ◌≤◌, List, [], ◌∷◌, ◌++◌, length, None, Ok, ◌≢◌, refl}
use Rattle.std.proofs.Common.{arith}
use Rattle.std.proofs.lemmas.Bool.Decides.{nat_tests}
use Rattle.desk.specs.declared.Order.{Order}
use Rattle.desk.specs.Orders.{inserted, look_up, without, Ascending, Opened, Closed}
use Rattle.desk.specs.Sets.{union, sorted, Distinct}
use Rattle.desk.specs.OrderLaws.{length_inserted, look_up-inserted, look_up-inserted_other, without-inserted, inserted_comm, ascending_inserted}

pub length_union : (xs ys : List Order) → length (union xs ys) ≡ length xs + length ys
length_union [] ys = omega arith
length_union (x ∷ xs) ys = omega (arith, length_inserted, length_union xs ys)

pub few_union : (xs ys : List Order) → length xs + length ys ≤ 64 → length (union xs ys) ≤ 64
few_union xs ys few = omega (arith, length_union xs ys)

pub length-sorted : (xs : List Order) → length (sorted xs) ≡ length xs
length-sorted xs = omega (arith, length_union xs [])

pub absent_union : (n : ℕ) (xs ys : List Order) → look_up n xs ≡ None → look_up n (union xs ys) ≡ look_up n ys
absent_union n [] ys h = refl
absent_union n (x ∷ xs) ys h = grind (arith, nat_tests, look_up-inserted_other, absent_union n xs ys)

pub absent_front : (n : ℕ) (p q : List Order) → look_up n (p ++ q) ≡ None → look_up n p ≡ None
absent_front n [] q h = refl
absent_front n (x ∷ p) q h = grind (arith, nat_tests, absent_front n p q)

-- one order among others that have not its number, wherever it stands
module _ (o : Order) where
  pub union_middle : (p q ys : List Order) → look_up o.number p ≡ None → union (p ++ o ∷ q) ys ≡ inserted o (union (p ++ q) ys)
  union_middle [] q ys h = refl
  union_middle (x ∷ p) q ys h = grind (arith, nat_tests, inserted_comm, union_middle p q ys)

  pub without_middle : (p q : List Order) → look_up o.number p ≡ None → without o.number (p ++ o ∷ q) ≡ p ++ q
  without_middle [] q h = grind (arith, nat_tests)
  without_middle (x ∷ p) q h = grind (arith, nat_tests, without_middle p q)

  look_up_middle : (n : ℕ) (p q : List Order) → (o.number ≢ n) → look_up n (p ++ o ∷ q) ≡ look_up n (p ++ q)
  look_up_middle n [] q e = grind (arith, nat_tests)
  look_up_middle n (x ∷ p) q e = grind (arith, nat_tests, look_up_middle n p q)

  absent_middle : (n : ℕ) (p q : List Order) → look_up n (p ++ o ∷ q) ≡ None → o.number ≢ n
  absent_middle n [] q h e = grind (arith, nat_tests)
  absent_middle n (x ∷ p) q h e = grind (arith, nat_tests, absent_middle n p q)

  pub distinct_more : (p q : List Order) → look_up o.number (p ++ q) ≡ None → Distinct (p ++ q) → Distinct (p ++ o ∷ q)
  distinct_more [] q h d = (h, d)
  distinct_more (x ∷ p) q h d = grind (arith, nat_tests, look_up_middle, distinct_more p q)

  pub distinct_less : (p q : List Order) → Distinct (p ++ o ∷ q) → (look_up o.number (p ++ q) ≡ None) × Distinct (p ++ q)
  distinct_less [] q d = d
  distinct_less (x ∷ p) q d = grind (arith, nat_tests, look_up_middle, absent_middle, distinct_less p q)

-- an order put into one of two lists
pub union-first : (o : Order) (xs ys : List Order) → look_up o.number xs ≡ None → union (inserted o xs) ys ≡ inserted o (union xs ys)
union-first o [] ys h = refl
union-first o (x ∷ xs) ys h = grind (arith, nat_tests, inserted_comm, union-first o xs ys)

pub union-second : (o : Order) (xs ys : List Order) → look_up o.number xs ≡ None → union xs (inserted o ys) ≡ inserted o (union xs ys)
union-second o [] ys h = refl
union-second o (x ∷ xs) ys h = grind (arith, nat_tests, inserted_comm, union-second o xs ys)

-- orders with distinct numbers, by rising number
pub look_up-sorted : (n : ℕ) (xs : List Order) → Distinct xs → look_up n (sorted xs) ≡ look_up n xs
look_up-sorted n [] d = refl
look_up-sorted n (x ∷ xs) d = grind (arith, nat_tests, absent_union, look_up-inserted, look_up-inserted_other, look_up-sorted n xs)

pub ascending_sorted : (xs : List Order) → Distinct xs → Ascending (sorted xs)
ascending_sorted [] d = tt
ascending_sorted (x ∷ xs) d = grind (arith, absent_union, ascending_inserted, ascending_sorted xs)

-- an order is put in or taken out somewhere
module _ (o : Order) (p q : List Order) where
  pub opened_middle : length (p ++ q) < 64 → look_up o.number (p ++ q) ≡ None → Opened o (sorted (p ++ q)) (sorted (p ++ o ∷ q)) (Ok tt)
  opened_middle room h = grind (arith, length-sorted, absent_union, absent_front, union_middle)

  pub closed_middle : (n : ℕ) → o.number ≡ n → Distinct (p ++ o ∷ q) → Closed n (sorted (p ++ o ∷ q)) (sorted (p ++ q)) (Ok o)
  closed_middle n e d =
      let gone = (distinct_less o p q d).0 in
      grind (arith, absent_union, absent_front, union_middle, look_up-inserted, without-inserted)
