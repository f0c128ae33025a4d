-- What an order put into a list changes. Assumes nothing.
use Rattle.std.specs.Prelude.{◌≡◌, ℕ, ◌+◌, ◌<◌, ◌≤◌, true, false, List, [], ◌∷◌, length, is_some, Some, None, Ok, Option, ◌≢◌, refl}
use Rattle.std.proofs.Common.{arith}
use Rattle.std.proofs.lemmas.Bool.Decides.{nat_tests}
use Rattle.desk.specs.declared.Order.{Order}
use Rattle.desk.specs.Orders.{inserted, look_up, without, Above, Ascending, Closed}

-- the two places that an insertion may have
pub inserted-front : (o x : Order) (xs : List Order) → o.number < x.number → inserted o (x ∷ xs) ≡ o ∷ x ∷ xs
inserted-front o x xs h = grind (arith, nat_tests)

pub inserted-past : (o x : Order) (xs : List Order) → x.number ≤ o.number → inserted o (x ∷ xs) ≡ x ∷ inserted o xs
inserted-past o x xs h = grind (arith, nat_tests)

-- the order that a list begins with, and the others
pub look_up-here : (n : ℕ) (x : Order) (xs : List Order) → x.number ≡ n → look_up n (x ∷ xs) ≡ Some x
look_up-here n x xs h = grind (arith, nat_tests)

pub look_up-past : (n : ℕ) (x : Order) (xs : List Order) → (x.number ≢ n) → look_up n (x ∷ xs) ≡ look_up n xs
look_up-past n x xs h = grind (arith, nat_tests)

pub absent_first : (n : ℕ) (x : Order) (xs : List Order) → look_up n (x ∷ xs) ≡ None → x.number ≢ n
absent_first n x xs h e = grind (arith, nat_tests)

pub absent_rest : (n : ℕ) (x : Order) (xs : List Order) → look_up n (x ∷ xs) ≡ None → look_up n xs ≡ None
absent_rest n x xs h = grind (arith, nat_tests)

pub without-here : (n : ℕ) (x : Order) (xs : List Order) → x.number ≡ n → without n (x ∷ xs) ≡ xs
without-here n x xs h = grind (arith, nat_tests)

pub without-past : (n : ℕ) (x : Order) (xs : List Order) → (x.number ≢ n) → without n (x ∷ xs) ≡ x ∷ without n xs
without-past n x xs h = grind (arith, nat_tests)

pub length_inserted : (o : Order) (xs : List Order) → length (inserted o xs) ≡ length xs + 1
length_inserted o [] = refl
length_inserted o (x ∷ xs) = grind (arith, nat_tests, length_inserted o xs)

pub look_up-inserted : (o : Order) (xs : List Order) → look_up o.number xs ≡ None → look_up o.number (inserted o xs) ≡ Some o
look_up-inserted o [] h = grind (arith, nat_tests)
look_up-inserted o (x ∷ xs) h = grind (arith, nat_tests, look_up-inserted o xs)

pub look_up-inserted_other : (n : ℕ) (o : Order) (xs : List Order) → (o.number ≢ n) → look_up n (inserted o xs) ≡ look_up n xs
look_up-inserted_other n o [] h = grind (arith, nat_tests)
look_up-inserted_other n o (x ∷ xs) h = grind (arith, nat_tests, look_up-inserted_other n o xs h)

pub found-inserted : (o : Order) (xs : List Order) → is_some (look_up o.number (inserted o xs)) ≡ true
found-inserted o [] = grind (arith, nat_tests)
found-inserted o (x ∷ xs) = grind (arith, nat_tests, found-inserted o xs)

-- a number that is not there once o is put in is not o's, and was not there before
pub absent_inserted : (n : ℕ) (o : Order) (xs : List Order) → look_up n (inserted o xs) ≡ None → (o.number ≢ n) × (look_up n xs ≡ None)
absent_inserted n o xs h =
    let other : o.number ≢ n = λ e. let f = found-inserted o xs in grind arith in
    (other, grind (arith, look_up-inserted_other))

pub without-inserted : (o : Order) (xs : List Order) → look_up o.number xs ≡ None → without o.number (inserted o xs) ≡ xs
without-inserted o [] h = grind (arith, nat_tests)
without-inserted o (x ∷ xs) h = grind (arith, nat_tests, without-inserted o xs)

-- orders with different numbers may be put in either first
pub inserted_comm : (a b : Order) (xs : List Order) → (a.number ≢ b.number) → inserted a (inserted b xs) ≡ inserted b (inserted a xs)
inserted_comm a b [] h = grind (arith, nat_tests)
inserted_comm a b (x ∷ xs) h = grind (arith, nat_tests, inserted_comm a b xs h)

-- a list that ascends still does
above-inserted : (n : ℕ) (o : Order) (xs : List Order) → n < o.number → Above n xs → Above n (inserted o xs)
above-inserted n o [] h a = h
above-inserted n o (x ∷ xs) h a = grind (arith, nat_tests)

pub ascending_inserted : (o : Order) (xs : List Order) → look_up o.number xs ≡ None → Ascending xs → Ascending (inserted o xs)
ascending_inserted o [] h a = (tt, tt)
ascending_inserted o (x ∷ xs) h a = grind (arith, nat_tests, above-inserted x.number o xs, ascending_inserted o xs)

-- the order that is found has the number
pub look_up-number : (n : ℕ) (o : Order) (xs : List Order) → look_up n xs ≡ Some o → o.number ≡ n
look_up-number n o [] h = grind arith
look_up-number n o (x ∷ xs) h = grind (arith, nat_tests, look_up-number n o xs)

-- a number below those of a list that ascends is not in it
pub absent_above : (n : ℕ) (xs : List Order) → Above n xs → Ascending xs → look_up n xs ≡ None
absent_above n [] a s = refl
absent_above n (x ∷ []) a s = grind (arith, nat_tests)
absent_above n (x ∷ y ∷ xs) a s = grind (arith, nat_tests, absent_above n (y ∷ xs))

-- what is left of a list that is `after` with o put in
pub closed_by : (n : ℕ) (o : Order) (before after : List Order) → o.number ≡ n → before ≡ inserted o after → look_up n after ≡ None → Closed n before after (Ok o)
closed_by n o before after e b g = grind (arith, look_up-inserted, without-inserted)

-- an option that is none, or is not
pub none_is : (o : Option Order) → is_some o ≡ false → o ≡ None
none_is None e = refl
none_is (Some x) e = grind arith

pub some_not_none : {X : Type 0} (o : Option Order) → o ≡ None → is_some o ≡ true → X
some_not_none o e h = grind arith
