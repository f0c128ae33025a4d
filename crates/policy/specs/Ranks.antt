-- Ranks of edges, as a list of sixty-four. Assumes nothing.
use Rattle.std.specs.Prelude.{◌≡◌, ℕ, ◌+◌, ◌<◌, ◌≤◌, min, cond, ◌&&◌, List, length, ◌==◌, nat_lt, count_by, slice_index}

-- a rank for each of the sixty-four edges, and none above the limit
abbrev pub Ranks : ℕ → List ℕ → Type 0
Ranks limit ranks = (length ranks ≡ 64) × ((k : ℕ) → slice_index ranks k ≤ limit)

-- where the even hand stops counting
abbrev pub most : ℕ
most = 1000000000

-- the rank of the edge rises by one, unless it has come to the limit; every other rank is as it was
abbrev pub Raised : List ℕ → ℕ → List ℕ → Type 0
Raised before edge after =
    (k : ℕ) → slice_index after k ≡ cond (k == edge && nat_lt edge 64) (min most (slice_index before k + 1)) (slice_index before k)

-- how often a number stands in the list
abbrev pub times : ℕ → List ℕ → ℕ
times e xs = count_by (λ x. e == x) xs

-- the rank of every edge is what it was and as much more as the edge stands in the list, up to the limit
abbrev pub Counted : List ℕ → List ℕ → List ℕ → Type 0
Counted before edges after = (k : ℕ) → k < 64 → slice_index after k ≡ min most (slice_index before k + times k edges)
