-- What a step's edges are, by counting. Assumes nothing.
use Rattle.std.specs.Prelude.{◌≡◌, ℕ, ◌<◌, ◌≤◌, Bool, true, cond, ◌&&◌, List, [], ◌∷◌, length, nat_eq}
use Rattle.std.specs.List.{AllByRecursion}
use Rattle.model.specs.Choice.{Basis, count, total, least, no_later, greedy}

abbrev pub Sorted : (ℕ → ℕ) → List ℕ → Type 0
Sorted rank [] = Unit {0}
Sorted rank (x ∷ xs) = AllByRecursion (λ y. no_later rank x y ≡ true) xs × Sorted rank xs

-- each edge leaves a node
abbrev pub Sourced : Basis → Type 0
Sourced t = (e : ℕ) → e < t.edges → 1 ≤ total (λ n. cond (t.source e n) 1 0) t.nodes

-- no node lacks the tokens that are used
abbrev pub Covered : Basis → List ℕ → Type 0
Covered t xs = (n : ℕ) → n < t.nodes → count (λ x. t.source x n) xs ≤ t.available n

-- a source of `e` all of whose tokens are used by edges that are no later than `e`
abbrev pub Exhausted : Basis → (ℕ → ℕ) → List ℕ → ℕ → Type 0
Exhausted t rank xs e = (n : ℕ) × (n < t.nodes) × (t.source e n ≡ true) × (count (λ x. t.source x n && no_later rank x e) xs ≡ t.available n)

pub record Law (t : Basis) (rank : ℕ → ℕ) (xs : List ℕ) : Type 0 where
  pub known : AllByRecursion (λ e. e < t.edges) xs
  pub few : (e : ℕ) → e < t.edges → count (nat_eq e) xs ≤ t.enabled e
  pub covered : Covered t xs
  pub left : (e : ℕ) → e < t.edges → count (nat_eq e) xs < t.enabled e → Exhausted t rank xs e
  pub sorted : Sorted rank xs

abbrev pub Lawful : Type 0
Lawful = (t : Basis) (rank : ℕ → ℕ) → Law t rank (greedy t rank)

abbrev pub Short : Type 0
Short = (t : Basis) (rank : ℕ → ℕ) (xs : List ℕ) → Sourced t → Law t rank xs → length xs ≤ total t.available t.nodes

abbrev pub Only : Type 0
Only = (t : Basis) (rank : ℕ → ℕ) (xs ys : List ℕ) → Law t rank xs → Law t rank ys → xs ≡ ys

-- `least` is the greatest of the numbers that are at most `top` and at most `f` of each member
abbrev pub Relevant : Type 0
Relevant = (s : ℕ → Bool) (f : ℕ → ℕ) (top n : ℕ)
    → (least s f top n ≤ top) × ((k : ℕ) → k < n → s k ≡ true → least s f top n ≤ f k)
    × ((r : ℕ) → r ≤ top → ((k : ℕ) → k < n → s k ≡ true → r ≤ f k) → r ≤ least s f top n)
