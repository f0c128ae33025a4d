-- What a turn of a part of the slots leaves in front of it. Assumes nothing.
use Rattle.std.proofs.Common.{◌≡◌, ℕ, suc, ◌+◌, ◌-◌, ◌<◌, ◌≤◌, List, [], ◌∷◌, ◌++◌, length, get_or, take, drop, set, sym, refl, ap, ◌∙◌, arith, drop-cons}
use borrow.Rule.Slice.PartMut.{put_mid}
use Rattle.std.specs.List.{insert, remove, between}
use Rattle.std.proofs.lemmas.List.{append_assoc, take-take, drop-take, take_more_set, take-set-le, drop-append-le, drop-drop, take_at as take_front, drop_at, length-take-le, length_push}
use Rattle.std.proofs.lemmas.List.Edits.{length-insert, length-remove}
use Rattle.std.proofs.lemmas.Slice.{between_is}

module _ {R : Type 0} where
  -- the last of the list comes to its front
  turned_right : (zs ps ys : List R) (x : R) → ps ≡ zs ++ (x ∷ []) → ys ≡ drop (length ps - 1) ps ++ take (length ps - 1) ps → ys ≡ x ∷ zs
  turned_right zs ps ys x p e =
      let n : length ps - 1 ≡ length zs = omega (arith, ap length p, length_push zs x) in
      e ∙ rw (n, p, drop_at zs (x ∷ []) (length zs) refl, take_front zs (x ∷ []) (length zs) refl)

  -- `x` is written behind `n` records, and then the part from `a` on is turned right by one
  pub held_after_put : (xs ps ys : List R) (a n : ℕ) (x : R) → a ≤ n → n < length xs → ps ≡ between a (n + 1) (set xs n x)
      → ys ≡ drop (length ps - 1) ps ++ take (length ps - 1) ps → take (n + 1) (put_mid a (n + 1 - a) (set xs n x) ys) ≡ insert (take n xs) a x
  held_after_put xs ps ys a n x h k p e =
      let long : length (take n xs) ≡ n = length-take-le n xs (omega arith) in
      let part : ps ≡ drop a (take n xs) ++ (x ∷ []) =
      p ∙ rw (between_is, take_more_set xs n x k) (drop-append-le a (take n xs) (x ∷ []) (omega arith)) in
      let turned = turned_right (drop a (take n xs)) ps ys x part e in
      let front : take a (set xs n x) ≡ take a (take n xs) = take-set-le a xs n x h ∙ sym (take-take a n xs h) in
      rw (turned, front, ← append_assoc) (take_front (insert (take n xs) a x) _ (n + 1) (omega (arith, length-insert (take n xs) a x (omega arith))))

  -- the part from `a` to `n` is turned left by one: the record at `a` comes behind the others, and what lies beyond stays
  take-at_so : (xs : List R) (a n m k : ℕ) (z : R) (ps ys : List R) → n ≡ a + suc m → k ≡ suc m → n ≤ length xs
      → ps ≡ take k (drop a xs) → ys ≡ drop 1 ps ++ take 1 ps
      → put_mid a k xs ys ≡ remove (take n xs) a ++ (get_or xs a z ∷ drop n xs)
  take-at_so xs a n m k z ps ys n-is size l ps-is e =
      let part : ps ≡ get_or xs a z ∷ take m (drop (suc a) xs) =
      ps-is ∙ rw size (ap (take (suc m)) (drop-cons xs a z (omega arith))) in
      let y : ys ≡ take m (drop (suc a) xs) ++ (get_or xs a z ∷ []) = e ∙ rw part in
      let end : a + k ≡ n = omega arith in
      let rest : drop k (drop a xs) ≡ drop n xs = drop-drop k a xs ∙ rw end in
      let front : take a (take n xs) ≡ take a xs = take-take a n xs (omega arith) in
      let n-also : n ≡ suc a + m = omega arith in
      let mid : drop (suc a) (take n xs) ≡ take m (drop (suc a) xs) = rw n-also (drop-take (suc a) m xs) in
      rw (rest, y, front, mid) (simp append_assoc)

  pub take_at : (xs : List R) (a n : ℕ) (z : R) (ps ys : List R) → a < n → n ≤ length xs
      → ps ≡ take (n - a) (drop a xs) → ys ≡ drop 1 ps ++ take 1 ps
      → put_mid a (n - a) xs ys ≡ remove (take n xs) a ++ (get_or xs a z ∷ drop n xs)
  take_at xs a n z ps ys h = take-at_so xs a n (n - a - 1) (n - a) z ps ys (omega arith) (omega arith)

  pub held_after_take : (xs ps ys : List R) (a n : ℕ) → a < n → n ≤ length xs → ps ≡ between a n xs
      → ys ≡ drop 1 ps ++ take 1 ps → take (n - 1) (put_mid a (n - a) xs ys) ≡ remove (take n xs) a
  held_after_take [] ps ys a n h k p e = absurd (omega arith)
  held_after_take (x ∷ xs) ps ys a n h k p e =
      let long = length-take-le n (x ∷ xs) k in
      ap (take (n - 1)) (take_at (x ∷ xs) a n x ps ys h k p e)
      ∙ take_front (remove (take n (x ∷ xs)) a) _ (n - 1) (omega (arith, length-remove (take n (x ∷ xs)) a (omega arith), long))
