-- What the definitions of the bag's list come to. Assumes nothing.
use Rattle.std.proofs.Common.{◌≡◌, ℕ, suc, ◌+◌, ◌<◌, ◌≤◌, Bool, true, false, cond, not, List, [], ◌∷◌, ◌++◌, length, get_or, Some, None, Option, filter, unwrap_or, sym, refl, ap, ◌∙◌, arith}
use Rattle.std.specs.List.{insert, remove, position, position_or_len}
use Rattle.std.proofs.lemmas.Grind.{common_steps}
use Rattle.std.proofs.lemmas.List.Folds.{find_at}
use Rattle.std.proofs.lemmas.List.Sums.{prefix_len-le-length}
use Rattle.std.proofs.lemmas.Option.{slice_get_read, slice_get_past}
use Rattle.bag.specs.Records.{put_in, first_with, without_first, none_before, in_order}

next : (n : ℕ) → suc n ≡ 1 + n
next n = omega arith

module _ {R : Type 0} (p : R → Bool) where
  without_at : (xs : List R) → position_or_len p xs < length xs → without_first p xs ≡ remove xs (position_or_len p xs)
  without_at [] = λ h. absurd (omega arith)
  without_at (x ∷ xs) =
      elim (p x) as (λ v. cond (not v) (1 + position_or_len p xs) 0 < suc (length xs) → cond v xs (x ∷ without_first p xs) ≡ remove (x ∷ xs) (cond (not v) (1 + position_or_len p xs) 0))
      [ true ↦ λ h. refl | false ↦ λ h. ap (λ l. x ∷ l) (without_at xs (omega arith)) ∙ ap (remove (x ∷ xs)) (next (position_or_len p xs)) ]

  without_all : (xs : List R) → length xs ≤ position_or_len p xs → without_first p xs ≡ xs
  without_all [] = λ h. refl
  without_all (x ∷ xs) =
      elim (p x) as (λ v. suc (length xs) ≤ cond (not v) (1 + position_or_len p xs) 0 → cond v xs (x ∷ without_first p xs) ≡ x ∷ xs)
      [ true ↦ λ h. absurd (omega arith) | false ↦ λ h. ap (λ l. x ∷ l) (without_all xs (omega arith)) ]

  past : (xs : List R) → position p xs ≡ None → length xs ≤ position_or_len p xs
  past xs h = grind (arith, common_steps)

  within : (xs : List R) (at : ℕ) → position p xs ≡ Some at → (at ≡ position_or_len p xs) × (position_or_len p xs < length xs)
  within xs at h = grind (arith, common_steps)

  -- by what a search for the first record that passes finds
  pub find_none : (xs : List R) → position p xs ≡ None → first_with p xs ≡ None
  find_none xs h = find_at p xs ∙ slice_get_past xs (position_or_len p xs) (past xs h)

  pub without_none : (xs : List R) → position p xs ≡ None → without_first p xs ≡ xs
  without_none xs h = without_all xs (past xs h)

  pub find_found : (xs : List R) (at : ℕ) (x : R) → position p xs ≡ Some at → x ≡ get_or xs at x → first_with p xs ≡ Some x
  find_found xs at x h read =
      let w = within xs at h in
      find_at p xs ∙ slice_get_read xs (length xs) (position_or_len p xs) x refl w.1 (rw w.0 at read)

  pub without_found : (xs : List R) (at : ℕ) → position p xs ≡ Some at → without_first p xs ≡ remove xs at
  without_found xs at h = let w = within xs at h in without_at xs w.1 ∙ ap (remove xs) (sym w.0)

  none-without : (before : R → R → Bool) (z : R) (xs : List R) → none_before before z xs ≡ true → none_before before z (without_first p xs) ≡ true
  none-without before z [] a = refl
  none-without before z (x ∷ xs) a = grind (arith, none-without before z xs)

  pub order_without : (before : R → R → Bool) (xs : List R) → in_order before xs ≡ true → in_order before (without_first p xs) ≡ true
  order_without before [] o = refl
  order_without before (x ∷ xs) o = grind (arith, none-without before x xs, order_without before xs)

module _ {R : Type 0} (before : R → R → Bool) where
  put_in_at : (x : R) (xs : List R) → put_in before x xs ≡ insert xs (position_or_len (before x) xs) x
  put_in_at x [] = refl
  put_in_at x (y ∷ ys) =
      elim (before x y) as (λ v. cond v (x ∷ (y ∷ ys)) (y ∷ put_in before x ys) ≡ insert (y ∷ ys) (cond (not v) (1 + position_or_len (before x) ys) 0) x)
      [ true ↦ refl | false ↦ ap (λ l. y ∷ l) (put_in_at x ys) ∙ ap (λ i. insert (y ∷ ys) i x) (next (position_or_len (before x) ys)) ]

  -- `x` is put in where a search for the first record of higher rank ends
  pub put_found : (x : R) (xs : List R) (found : Option ℕ) (at : ℕ) → found ≡ position (before x) xs → at ≡ unwrap_or found (length xs) → insert xs at x ≡ put_in before x xs
  put_found x xs found at e h =
      let p = prefix_len-le-length (λ y. not (before x y)) xs in
      let k : at ≡ position_or_len (before x) xs = grind (arith, common_steps) in
      rw k (sym (put_in_at x xs))

  none_put_in : (z x : R) (xs : List R) → before x z ≡ false → none_before before z xs ≡ true → none_before before z (put_in before x xs) ≡ true
  none_put_in z x [] h a = grind arith
  none_put_in z x (y ∷ ys) h a = grind (arith, none_put_in z x ys h)

  module _ (asymmetric : (x y : R) → before x y ≡ true → before y x ≡ false) (transitive : (x y z : R) → before y x ≡ false → before z y ≡ false → before z x ≡ false) where
    -- what none of a list ranks before, none ranks before in front of it
    none_further : (x y : R) (zs : List R) → before y x ≡ false → none_before before y zs ≡ true → none_before before x zs ≡ true
    none_further x y [] h a = refl
    none_further x y (z ∷ zs) h a = grind (arith, transitive x y z, none_further x y zs h)

    pub order_put_in : (x : R) (xs : List R) → in_order before xs ≡ true → in_order before (put_in before x xs) ≡ true
    order_put_in x [] o = refl
    order_put_in x (y ∷ ys) o = grind (arith, asymmetric x y, none_further x y ys, none_put_in y x ys, order_put_in x ys)

    -- where `x` ranks before `y`, it ranks before all that do not rank before `y`
    rest_behind : (x y : R) (zs : List R) → before x y ≡ true → none_before before y zs ≡ true
        → (filter (λ z. not (before x z)) zs ≡ []) × (filter (before x) zs ≡ zs)
    rest_behind x y [] t a = (refl, refl)
    rest_behind x y (z ∷ zs) t a = grind (arith, transitive y z x, rest_behind x y zs)

    pub put_in_place : (x : R) (xs : List R) → in_order before xs ≡ true → put_in before x xs ≡ filter (λ y. not (before x y)) xs ++ (x ∷ filter (before x) xs)
    put_in_place x [] o = refl
    put_in_place x (y ∷ ys) o = grind (arith, rest_behind x y ys, put_in_place x ys)
