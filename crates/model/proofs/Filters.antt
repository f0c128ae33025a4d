-- What a filter keeps of a list that a record is put into or taken from. Assumes nothing.
use Rattle.std.proofs.Common.{◌≡◌, Bool, true, false, List, [], ◌∷◌, length, filter, refl, arith}
use Rattle.bag.specs.Records.{put_in, none_before, in_order, head_of, tail_of, first_with, without_first}

module _ {R : Type 0} (p : R → Bool) where
  module _ (before : R → R → Bool) (x : R) where
    pub filter_put_no : (xs : List R) → p x ≡ false → filter p (put_in before x xs) ≡ filter p xs
    filter_put_no [] h = grind arith
    filter_put_no (y ∷ ys) h = grind (arith, filter_put_no ys h)

    pub length_filter_put : (xs : List R) → length (filter p (put_in before x xs)) ≡ length (filter p (x ∷ xs))
    length_filter_put [] = refl
    length_filter_put (y ∷ ys) = grind (arith, length_filter_put ys)

  -- the first record that passes
  pub first_of_filter : (xs : List R) → first_with p xs ≡ head_of (filter p xs)
  first_of_filter [] = refl
  first_of_filter (x ∷ xs) = grind (arith, first_of_filter xs)

  pub filter_without : (xs : List R) → filter p (without_first p xs) ≡ tail_of (filter p xs)
  filter_without [] = refl
  filter_without (x ∷ xs) = grind (arith, filter_without xs)

  -- by a test that the record fails
  pub filter_without_other : (q : R → Bool) → ((x : R) → p x ≡ true → q x ≡ false) → (xs : List R) → filter q (without_first p xs) ≡ filter q xs
  filter_without_other q apart [] = refl
  filter_without_other q apart (x ∷ xs) = grind (arith, apart x, filter_without_other q apart xs)

  -- a filter leaves a list in order, also by any rank that agrees on what passes
  module _ (before rank : R → R → Bool) (agree : (x y : R) → p x ≡ true → p y ≡ true → before y x ≡ false → rank y x ≡ false) where
    none_before_filter : (x : R) (xs : List R) → p x ≡ true → none_before before x xs ≡ true → none_before rank x (filter p xs) ≡ true
    none_before_filter x [] h a = refl
    none_before_filter x (y ∷ ys) h a = grind (arith, agree x y, none_before_filter x ys h)

    pub in_order_filter : (xs : List R) → in_order before xs ≡ true → in_order rank (filter p xs) ≡ true
    in_order_filter [] o = refl
    in_order_filter (x ∷ xs) o = grind (arith, none_before_filter x xs, in_order_filter xs)

  module _ (before : R → R → Bool) (transitive : (x y z : R) → before y x ≡ false → before z y ≡ false → before z x ≡ false) (x : R) (passes : p x ≡ true) where
    -- `x` ranks before all that do not rank before `y`
    put_first : (y : R) (zs : List R) → before x y ≡ true → none_before before y zs ≡ true → put_in before x (filter p zs) ≡ x ∷ filter p zs
    put_first y [] t a = refl
    put_first y (z ∷ zs) t a = grind (arith, transitive y z x, put_first y zs t)

    -- a record that passes is put among those that pass as it is put among all
    pub filter_put : (xs : List R) → in_order before xs ≡ true → filter p (put_in before x xs) ≡ put_in before x (filter p xs)
    filter_put [] o = grind arith
    filter_put (y ∷ ys) o = grind (arith, put_first y ys, filter_put ys)
