-- In which order records leave, by the order in which they were put. A list `puts` has the records of a bag in the order of putting.
use Rattle.std.specs.Prelude.{◌≡◌, ℕ, ◌+◌, Bool, true, false, cond, not, ◌&&◌, List, [], ◌∷◌, ◌++◌, Some, None, count_by, filter, Option}
use Rattle.std.specs.List.{AllByRecursion}
use Rattle.bag.specs.Records.{none_before, in_order, first_with, without_first}

-- whether neither record has the lower rank
abbrev pub same_rank : {R : Type 0} → (R → R → Bool) → R → R → Bool
same_rank before x y = not (before x y) && not (before y x)

-- `xs` has the records of `puts` by rank, and those of each rank in the order of putting
pub record Arranged {R : Type 0} (before : R → R → Bool) (puts xs : List R) : Type 0 where
  pub ordered : in_order before xs ≡ true
  pub equals : (r : R) → filter (same_rank before r) xs ≡ filter (same_rank before r) puts
  pub records : (q : R → Bool) → count_by q xs ≡ count_by q puts

-- Among the records that pass the test `p`, `x` has the lowest rank, and of that rank it was put first: those that were put earlier
-- have a higher rank, and those that were put later do not have a lower one. Without it, `rest` stay in the order of putting.
pub record Leaves {R : Type 0} (before : R → R → Bool) (p : R → Bool) (puts : List R) (x : R) (rest : List R) : Type 0 where
  pub earlier : List R
  pub later : List R
  pub were : puts ≡ earlier ++ (x ∷ later)
  pub stay : rest ≡ earlier ++ later
  pub passes : p x ≡ true
  pub higher : AllByRecursion (λ y. p y ≡ true → before x y ≡ true) earlier
  pub no_lower : AllByRecursion (λ y. p y ≡ true → before y x ≡ false) later

-- what a taking by the test `p` answers, and what stays
abbrev pub Taken : {R : Type 0} → (R → R → Bool) → (R → Bool) → List R → Option R → List R → Type 0
Taken before p puts None rest = AllByRecursion (λ y. p y ≡ false) puts × (rest ≡ puts)
Taken before p puts (Some x) rest = Leaves before p puts x rest

-- the test that every record passes
abbrev pub any : {R : Type 0} → R → Bool
any x = true

abbrev pub count_if : {R : Type 0} → (R → Bool) → Option R → ℕ
count_if q None = 0
count_if q (Some x) = cond (q x) 1 0

-- the record has the lowest rank of the list
abbrev pub Lowest : {R : Type 0} → (R → R → Bool) → List R → Option R → Type 0
Lowest before xs None = xs ≡ []
Lowest before xs (Some x) = none_before before x xs ≡ true

-- How `r` is the first of the list `xs`.
pub record FirstLaw {R : Type 0} (before : R → R → Bool) (xs : List R) (r : Option R) : Type 0 where
  -- no record has a lower rank
  pub lowest : in_order before xs ≡ true → Lowest before xs r
  -- and of its rank it was put first
  pub earliest : (puts : List R) → Arranged before puts xs → (rest : List R) × Taken before any puts r rest

-- How `x` comes into the list `xs`, which is `ys` then.
pub record PutLaw {R : Type 0} (before : R → R → Bool) (x : R) (xs ys : List R) : Type 0 where
  -- behind every record whose rank is not higher, before the rest
  pub place : in_order before xs ≡ true → ys ≡ filter (λ y. not (before x y)) xs ++ (x ∷ filter (before x) xs)
  pub ordered : in_order before xs ≡ true → in_order before ys ≡ true
  -- as the last that was put
  pub arranged : (puts : List R) → Arranged before puts xs → Arranged before (puts ++ (x ∷ [])) ys
  -- once, and nothing is lost or doubled: of the records that pass any test, there is one more if `x` passes
  pub counted : (q : R → Bool) → count_by q ys ≡ count_by q xs + cond (q x) 1 0
  -- by any test that only `x` passes, `x` is found, and without it the list is as before
  pub back : (p : R → Bool) → p x ≡ true → count_by p xs ≡ 0 → (first_with p ys ≡ Some x) × (without_first p ys ≡ xs)

-- How `r` leaves the list `xs` by the test `p`, which is `ys` then.
pub record TakeLaw {R : Type 0} (before : R → R → Bool) (p : R → Bool) (xs : List R) (r : Option R) (ys : List R) : Type 0 where
  pub ordered : in_order before xs ≡ true → in_order before ys ≡ true
  -- it is the lowest, and the first put of that rank
  pub arranged : (puts : List R) → Arranged before puts xs → (rest : List R) × Taken before p puts r rest × Arranged before rest ys
  -- once, and nothing is lost or doubled
  pub counted : (q : R → Bool) → count_by q xs ≡ count_by q ys + count_if q r
