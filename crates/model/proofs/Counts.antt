-- Counts of a list, sums below a number, and room at nodes. Assumes nothing.
use Rattle.std.proofs.Common.{◌≡◌, ℕ, zero, suc, ◌+◌, ◌<◌, ◌≤◌, Bool, true, false, cond, List, [], ◌∷◌, ◌++◌, length, replicate, refl, arith}
use Rattle.std.specs.List.{AllByRecursion}
use Rattle.std.proofs.lemmas.Bool.Decides.{nat_tests}
use Rattle.std.proofs.lemmas.List.Sums.{sum_by-cons, sum_by-append}
use Rattle.std.proofs.lemmas.List.Folds.{sum_by-replicate}
use Rattle.model.specs.Choice.{count, total, room}

-- WHAT HOLDS OF EACH OF A LIST

module _ (P : ℕ → Type 0) where
  pub all_weaker : (Q : ℕ → Type 0) → ((x : ℕ) → P x → Q x) → (xs : List ℕ) → AllByRecursion P xs → AllByRecursion Q xs
  all_weaker Q f [] a = tt
  all_weaker Q f (x ∷ xs) a = (f x a.0, all_weaker Q f xs a.1)

  pub all_append : (xs ys : List ℕ) → AllByRecursion P xs → AllByRecursion P ys → AllByRecursion P (xs ++ ys)
  all_append [] ys a b = b
  all_append (x ∷ xs) ys a b = (a.0, all_append xs ys a.1 b)

  pub all_middle : (xs : List ℕ) (y : ℕ) (ys : List ℕ) → AllByRecursion P (xs ++ (y ∷ ys)) → P y
  all_middle [] y ys a = a.0
  all_middle (x ∷ xs) y ys a = all_middle xs y ys a.1

  pub all_replicate : (j e : ℕ) → P e → AllByRecursion P (replicate j e)
  all_replicate zero e h = tt
  all_replicate (suc j) e h = (h, all_replicate j e h)

-- COUNTS

module _ (p : ℕ → Bool) where
  pub count-cons : (x : ℕ) (xs : List ℕ) → count p (x ∷ xs) ≡ cond (p x) 1 0 + count p xs
  count-cons x xs = sum_by-cons (λ y. cond (p y) 1 0) x xs

  pub count-append : (xs ys : List ℕ) → count p (xs ++ ys) ≡ count p xs + count p ys
  count-append xs ys = sum_by-append (λ y. cond (p y) 1 0) xs ys

  pub count_none : (P : ℕ → Type 0) → ((x : ℕ) → P x → p x ≡ false) → (xs : List ℕ) → AllByRecursion P xs → count p xs ≡ 0
  count_none P f [] a = refl
  count_none P f (x ∷ xs) a = grind (arith, count-cons x xs, f x a.0, count_none P f xs a.1)

  pub count-replicate : (j e : ℕ) → p e ≡ true → count p (replicate j e) ≡ j
  count-replicate j e h = grind (arith, sum_by-replicate (λ y. cond (p y) 1 0) j e)

-- two tests that agree on a list
pub count_same : (p q : ℕ → Bool) (P : ℕ → Type 0) → ((x : ℕ) → P x → p x ≡ q x) → (xs : List ℕ) → AllByRecursion P xs → count p xs ≡ count q xs
count_same p q P f [] a = refl
count_same p q P f (x ∷ xs) a = grind (arith, count-cons p x xs, count-cons q x xs, f x a.0, count_same p q P f xs a.1)

-- SUMS BELOW A NUMBER

pub total_add : (f g h : ℕ → ℕ) (n : ℕ) → ((k : ℕ) → f k ≡ g k + h k) → total f n ≡ total g n + total h n
unfolding total
total_add f g h zero e = refl
total_add f g h (suc n) e = omega (arith, e n, total_add f g h n e)

pub total_le : (f g : ℕ → ℕ) (n : ℕ) → ((k : ℕ) → k < n → f k ≤ g k) → total f n ≤ total g n
unfolding total
total_le f g zero h = omega arith
total_le f g (suc n) h = omega (arith, h n (omega arith), total_le f g n (λ k l. h k (omega arith)))

-- each passes somewhere, so the list is no longer than the sum of its counts
pub length-le-total : (s : ℕ → ℕ → Bool) (n : ℕ) (xs : List ℕ) → AllByRecursion (λ x. 1 ≤ total (λ k. cond (s x k) 1 0) n) xs → length xs ≤ total (λ k. count (λ x. s x k) xs) n
length-le-total s n [] a = omega arith
length-le-total s n (x ∷ xs) a =
    let c : ℕ → ℕ = λ k. count (λ y. s y k) xs in
    let more : total (λ k. count (λ y. s y k) (x ∷ xs)) n ≡ total (λ k. cond (s x k) 1 0) n + total c n = total_add _ (λ k. cond (s x k) 1 0) c n (λ k. count-cons (λ y. s y k) x xs) in
    omega (arith, a.0, length-le-total s n xs a.1)

-- ROOM

pub room_parts : (s : ℕ → Bool) (f : ℕ → ℕ) (m : ℕ) → room s f m ≡ true → (n : ℕ) → n < m → s n ≡ true → 0 < f n
unfolding room
room_parts s f zero r n h k = absurd (omega arith)
room_parts s f (suc m) r n h k = grind (arith, nat_tests, room_parts s f m)

pub room_lacks : (s : ℕ → Bool) (f : ℕ → ℕ) (m : ℕ) → room s f m ≡ false → (n : ℕ) × (n < m) × (s n ≡ true) × (f n ≡ 0)
unfolding room
room_lacks s f zero r = absurd (grind arith)
room_lacks s f (suc m) r = grind (arith, nat_tests, room_lacks s f m)
