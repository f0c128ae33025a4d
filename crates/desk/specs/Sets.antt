-- Orders that are kept in any sequence, or in two lists, and the set that they are. Assumes nothing.
use Rattle.std.specs.Prelude.{◌≡◌, ℕ, true, List, [], ◌∷◌, is_some, None}
use Rattle.desk.specs.declared.Order.{Order}
use Rattle.desk.specs.Orders.{inserted, look_up}

-- the orders xs put one by one among the orders ys
abbrev pub union : List Order → List Order → List Order
union [] ys = ys
union (x ∷ xs) ys = inserted x (union xs ys)

-- the orders of a list by rising number
abbrev pub sorted : List Order → List Order
sorted xs = union xs []

-- no two have one number
abbrev pub Distinct : List Order → Type 0
Distinct [] = Unit {0}
Distinct (x ∷ xs) = (look_up x.number xs ≡ None) × Distinct xs

-- no number is in both
abbrev pub Disjoint : List Order → List Order → Type 0
Disjoint xs ys = (n : ℕ) → is_some (look_up n xs) ≡ true → look_up n ys ≡ None
