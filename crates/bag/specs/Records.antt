-- What a bag holds: a list of records, the next to leave at its head. `before x y` says that `x` has a lower rank than `y`.
use Rattle.std.specs.Prelude.{Bool, true, cond, not, ◌&&◌, List, [], ◌∷◌, drop, slice_get, Option}
use Rattle.std.specs.List.{find, list_all}

-- the list in which `x` stands before the first record of higher rank, and so behind its equals
abbrev pub put_in : {R : Type 0} → (R → R → Bool) → R → List R → List R
put_in before x [] = x ∷ []
put_in before x (y ∷ ys) = cond (before x y) (x ∷ (y ∷ ys)) (y ∷ put_in before x ys)

-- no record of the list has a lower rank than `x`
abbrev pub none_before : {R : Type 0} → (R → R → Bool) → R → List R → Bool
none_before before x xs = list_all (λ y. not (before y x)) xs

-- no record has a lower rank than one that stands in front of it
abbrev pub in_order : {R : Type 0} → (R → R → Bool) → List R → Bool
in_order before [] = true
in_order before (x ∷ xs) = none_before before x xs && in_order before xs

-- the first record, and the list without it
abbrev pub head_of : {R : Type 0} → List R → Option R
head_of xs = slice_get xs 0

abbrev pub tail_of : {R : Type 0} → List R → List R
tail_of xs = drop 1 xs

-- the first record that passes a test, and the list without it
abbrev pub first_with : {R : Type 0} → (R → Bool) → List R → Option R
first_with p xs = find p xs

abbrev pub without_first : {R : Type 0} → (R → Bool) → List R → List R
without_first p [] = []
without_first p (x ∷ xs) = cond (p x) xs (x ∷ without_first p xs)
