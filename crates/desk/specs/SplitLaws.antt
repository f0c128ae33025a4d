-- What a call on one of two desks does to both together. Assumes nothing.
use Rattle.std.specs.Prelude.{◌≡◌, ℕ, ◌<◌, ◌≤◌, true, List, [], ◌∷◌, is_some, Some, None, Ok, Err, Result, refl}
use Rattle.std.proofs.Common.{arith}
use Rattle.std.specs.List.{AllByRecursion}
use Rattle.std.proofs.lemmas.Bool.Decides.{nat_tests}
use Rattle.desk.specs.declared.Order.{Order}
use Rattle.desk.specs.declared.Refusal.{Refusal}
use Rattle.desk.specs.Orders.{inserted, look_up, Ascending, CanOpen, Opened, Closed}
use Rattle.desk.specs.Sets.{union, Disjoint}
use Rattle.desk.specs.Splits.{Sides}
use Rattle.desk.specs.OrderLaws.{length_inserted, look_up-inserted, look_up-inserted_other, absent_inserted, without-inserted, absent_above, ascending_inserted, none_is}
use Rattle.desk.specs.SetLaws.{length_union, absent_union, union-first, union-second}

module _ (x : Order) (xs ys : List Order) (d : Disjoint (x ∷ xs) ys) where
  disjoint-rest : Disjoint xs ys
  disjoint-rest n h = let e = d n in grind (arith, nat_tests)

  disjoint_first : look_up x.number ys ≡ None
  disjoint_first = let e = d x.number in grind (arith, nat_tests)

-- what the first has, both have
pub present_union : (n : ℕ) (xs ys : List Order) → Disjoint xs ys → Ascending xs → is_some (look_up n xs) ≡ true → look_up n (union xs ys) ≡ look_up n xs
present_union n [] ys d s h = grind arith
present_union n (x ∷ xs) ys d s h =
    let e = present_union n xs ys (disjoint-rest x xs ys d) s.1 in
    let y = disjoint_first x xs ys d in
    let a = absent_above x.number xs s.0 s.1 in
    grind (arith, nat_tests, absent_union, look_up-inserted, look_up-inserted_other)

pub look_up-union : (n : ℕ) (o : Order) (xs ys : List Order) → Disjoint xs ys → Ascending xs → look_up n xs ≡ Some o → look_up n (union xs ys) ≡ Some o
look_up-union n o xs ys d s h = let e = present_union n xs ys d s in grind arith

pub ascending_union : (xs ys : List Order) → Disjoint xs ys → Ascending xs → Ascending ys → Ascending (union xs ys)
ascending_union [] ys d s t = t
ascending_union (x ∷ xs) ys d s t =
    let e = ascending_union xs ys (disjoint-rest x xs ys d) s.1 t in
    let y = disjoint_first x xs ys d in
    let a = absent_above x.number xs s.0 s.1 in
    grind (arith, absent_union, ascending_inserted)

pub disjoint_put_first : (o : Order) (xs ys : List Order) → Disjoint xs ys → look_up o.number ys ≡ None → Disjoint (inserted o xs) ys
disjoint_put_first o xs ys d h n k = let e = d n in grind (arith, look_up-inserted_other)

pub disjoint_put_second : (o : Order) (xs ys : List Order) → Disjoint xs ys → look_up o.number xs ≡ None → Disjoint xs (inserted o ys)
disjoint_put_second o xs ys d h n k = let e = d n k in grind (arith, look_up-inserted_other)

pub disjoint-take-first : (o : Order) (xs ys : List Order) → Disjoint (inserted o xs) ys → look_up o.number xs ≡ None → Disjoint xs ys
disjoint-take-first o xs ys d h n k = let e = d n in grind (arith, look_up-inserted_other)

pub disjoint-take-second : (o : Order) (xs ys : List Order) → Disjoint xs (inserted o ys) → Disjoint xs ys
disjoint-take-second o xs ys d n k = (absent_inserted n o ys (d n k)).1

absent_both : (n : ℕ) (xs ys : List Order) → look_up n (union xs ys) ≡ None → (look_up n xs ≡ None) × (look_up n ys ≡ None)
absent_both n [] ys h = (refl, h)
absent_both n (x ∷ xs) ys h =
    let a = absent_inserted n x (union xs ys) h in
    let b = absent_both n xs ys a.1 in
    grind (arith, nat_tests)

module _ (P : Order → Type 0) where
  pub all_inserted : (o : Order) (xs : List Order) → P o → AllByRecursion P xs → AllByRecursion P (inserted o xs)
  all_inserted o [] p a = (p, tt)
  all_inserted o (x ∷ xs) p a = grind (arith, nat_tests, all_inserted o xs)

  pub all_uninserted : (o : Order) (xs : List Order) → AllByRecursion P (inserted o xs) → AllByRecursion P xs
  all_uninserted o [] a = tt
  all_uninserted o (x ∷ xs) a = grind (arith, nat_tests, all_uninserted o xs)

-- an order put into one of the two
pub ruleset opened_on_one = (disjoint_put_first, disjoint_put_second, all_inserted, length_inserted, length_union, absent_union, present_union, union-first, union-second)

-- an order taken out of one of the two
pub ruleset closed_on_one = (disjoint-take-first, disjoint-take-second, all_uninserted, length_inserted, absent_union, union-first, union-second, look_up-inserted, without-inserted)

-- an order that can be opened on both together
module _ {P Q P' : Type 0} {b : ℕ} (o : Order) (xs ys zs : List Order) (r : Result (Unit {0}) Refusal) (two : Sides P Q b xs ys) (p : P') (can : CanOpen o (union xs ys)) where
  neither : (look_up o.number xs ≡ None) × (look_up o.number ys ≡ None)
  neither = absent_both o.number xs ys (none_is (look_up o.number (union xs ys)) can.1)

  pub into_first : o.activity < b → Opened o xs zs r → Sides P' Q b zs ys × Opened o (union xs ys) (union zs ys) r
  into_first side h = let e = neither in grind (arith, disjoint_put_first o xs ys, all_inserted, length_inserted, length_union xs ys, absent_union o.number xs ys, union-first o xs ys)

  pub into_second : b ≤ o.activity → Opened o ys zs r → Sides P P' b xs zs × Opened o (union xs ys) (union xs zs) r
  into_second side h = let e = neither in grind (arith, disjoint_put_second o xs ys, all_inserted, length_inserted, length_union xs ys, absent_union o.number xs ys, union-second o xs ys)

pub first-closed : {P Q P' : Type 0} {b : ℕ} (n : ℕ) (o : Order) (xs ys zs : List Order) → Sides P Q b xs ys → P' → Closed n xs zs (Ok o) → Sides P' Q b zs ys × Closed n (union xs ys) (union zs ys) (Ok o)
first-closed n o xs ys zs two p h = grind (arith, closed_on_one)

-- the first has not the number
module _ {P Q P' Q' : Type 0} {b : ℕ} (n : ℕ) (e : Refusal) (xs xs' ys : List Order) (two : Sides P Q b xs ys) (p : P') (q : Q') (f : Closed n xs xs' (Err e)) where
  pub second_closed : (zs : List Order) (r : Result Order Refusal) → Closed n ys zs r → Sides P' Q' b xs' zs × Closed n (union xs ys) (union xs' zs) r
  second_closed zs r h = grind (arith, closed_on_one)
