-- Step order, and counts in it. Assumes nothing.
use Rattle.std.proofs.Common.{◌≡◌, ℕ, zero, suc, ◌<◌, Bool, true, false, ◌&&◌, ltb, nat_eq, List, [], ◌∷◌, ◌++◌, replicate, arith}
use Rattle.std.specs.List.{AllByRecursion}
use Rattle.std.proofs.lemmas.Bool.Decides.{nat_tests}
use Rattle.model.specs.Choice.{count, no_later, place, order}
use Rattle.model.specs.ChoiceLaw.{Sorted}
use Rattle.model.proofs.Counts.{all_weaker, all_append, all_middle, all_replicate, count_none, count_same}

module _ (rank : ℕ → ℕ) where
  -- in step order y stands no later than x, or after it
  abbrev pub NoLater : ℕ → ℕ → Type 0
  NoLater x y = no_later rank y x ≡ true

  abbrev pub After : ℕ → ℕ → Type 0
  After x y = no_later rank y x ≡ false

  pub no_later_refl : (x : ℕ) → NoLater x x
  no_later_refl x = grind (arith, nat_tests)

  pub no_later_antisymm : (x y : ℕ) → NoLater x y → NoLater y x → x ≡ y
  no_later_antisymm x y h k = grind (arith, nat_tests)

  -- each of a list stands before e, after it, or no later
  module _ (e : ℕ) (xs : List ℕ) where
    pub before-no_later : AllByRecursion (λ x. After x e) xs → AllByRecursion (NoLater e) xs
    before-no_later a = all_weaker (λ x. After x e) (NoLater e) (λ x h. grind (arith, nat_tests)) xs a

    pub none_before : AllByRecursion (λ x. After x e) xs → count (nat_eq e) xs ≡ 0
    none_before a = count_none (nat_eq e) (λ x. After x e) (λ x h. grind (arith, nat_tests)) xs a

    pub none_after : AllByRecursion (After e) xs → count (nat_eq e) xs ≡ 0
    none_after a = count_none (nat_eq e) (After e) (λ x h. grind (arith, nat_tests)) xs a

    pub none_counted : (p : ℕ → Bool) → AllByRecursion (After e) xs → count (λ x. p x && no_later rank x e) xs ≡ 0
    none_counted p a = count_none (λ x. p x && no_later rank x e) (After e) (λ x h. grind (arith, h)) xs a

    pub all_counted : (p : ℕ → Bool) → AllByRecursion (NoLater e) xs → count (λ x. p x && no_later rank x e) xs ≡ count p xs
    all_counted p a = count_same (λ x. p x && no_later rank x e) p (NoLater e) (λ x h. grind (arith, h)) xs a

  -- SORTED LISTS

  sorted_replicate : (j e : ℕ) → Sorted rank (replicate j e)
  sorted_replicate zero e = tt
  sorted_replicate (suc j) e = (all_replicate (λ y. NoLater y e) j e (no_later_refl e), sorted_replicate j e)

  pub sorted_append : (j e : ℕ) (xs : List ℕ) → AllByRecursion (NoLater e) xs → Sorted rank xs → Sorted rank (xs ++ replicate j e)
  sorted_append j e [] a s = sorted_replicate j e
  sorted_append j e (x ∷ xs) a s =
      (all_append (λ y. NoLater y x) xs (replicate j e) s.0 (all_replicate (λ y. NoLater y x) j e a.0), sorted_append j e xs a.1 s.1)

  -- at one of its edges
  module _ (y : ℕ) (ys : List ℕ) where
    pub no_later_front : (xs : List ℕ) → Sorted rank (xs ++ (y ∷ ys)) → AllByRecursion (NoLater y) xs
    no_later_front [] s = tt
    no_later_front (x ∷ xs) s = (all_middle (λ z. NoLater z x) xs y ys s.0, no_later_front xs s.1)

    pub after_back : (x : ℕ) (xs : List ℕ) → Sorted rank (xs ++ (y ∷ ys)) → After x y → AllByRecursion (After x) (y ∷ ys)
    after_back x [] s h = (h, all_weaker (λ z. NoLater z y) (After x) (λ z k. grind (arith, nat_tests)) ys s.0)
    after_back x (z ∷ xs) s h = after_back x xs s.1 h

  -- THE EDGES IN STEP ORDER

  -- each stands before those behind it
  abbrev pub Strict : List ℕ → Type 0
  Strict [] = Unit {0}
  Strict (x ∷ xs) = AllByRecursion (After x) xs × Strict xs

  all_place : (P : ℕ → Type 0) (e : ℕ) (xs : List ℕ) → P e → AllByRecursion P xs → AllByRecursion P (place rank e xs)
  all_place P e [] h a = (h, tt)
  all_place P e (x ∷ xs) h a = grind (arith, all_place P e xs)

  all_placed : (P : ℕ → Type 0) (e : ℕ) (xs : List ℕ) → AllByRecursion P (place rank e xs) → P e × AllByRecursion P xs
  all_placed P e [] a = (a.0, tt)
  all_placed P e (x ∷ xs) a = grind (arith, all_placed P e xs)

  -- an edge comes after those of its rank, which have lower numbers
  strict_place : (e : ℕ) (xs : List ℕ) → AllByRecursion (λ x. x < e) xs → Strict xs → Strict (place rank e xs)
  strict_place e [] a s = (tt, tt)
  strict_place e (x ∷ xs) a s =
      let further = λ (h : ltb (rank e) (rank x) ≡ true). all_weaker (After x) (After e) (λ y k. grind (arith, nat_tests)) xs s.0 in
      grind (arith, nat_tests, further, strict_place e xs, all_place (After x) e xs)

  pub order_below : (m : ℕ) → AllByRecursion (λ x. x < m) (order rank m)
  order_below zero = tt
  order_below (suc m) = all_place (λ x. x < suc m) m (order rank m) (omega arith) (all_weaker (λ x. x < m) (λ x. x < suc m) (λ x h. omega arith) (order rank m) (order_below m))

  pub order_strict : (m : ℕ) → Strict (order rank m)
  order_strict zero = tt
  order_strict (suc m) = strict_place m (order rank m) (order_below m) (order_strict m)

  -- what holds of each edge in step order holds of each edge
  pub order_all : (P : ℕ → Type 0) (m : ℕ) → AllByRecursion P (order rank m) → (e : ℕ) → e < m → P e
  order_all P zero a e h = absurd (omega arith)
  order_all P (suc m) a e h =
      let r = all_placed P m (order rank m) a in
      grind (arith, order_all P m r.1)
