-- Which enabled edges a step takes. Assumes nothing.
use Rattle.std.specs.Prelude.{ℕ, zero, suc, ◌+◌, ◌-◌, min, Bool, true, cond, not, ◌&&◌, ◌||◌, List, [], ◌∷◌, ◌++◌, count_by, ◌==◌, nat_le, nat_lt}

-- what a choice goes by: so many edges and nodes, which nodes an edge leaves, the tokens at a node, the copies of an edge
pub record Basis : Type 0 where
  pub edges : ℕ
  pub nodes : ℕ
  pub source : ℕ → ℕ → Bool
  pub available : ℕ → ℕ
  pub enabled : ℕ → ℕ

-- how many of a list pass
abbrev pub count : (ℕ → Bool) → List ℕ → ℕ
count p xs = count_by p xs

-- the sum of `f` below a number
unfoldable pub total : (ℕ → ℕ) → ℕ → ℕ
total f zero = 0
total f (suc n) = f n + total f n

-- the least of `f` over the members below a number, and at most `top`
unfoldable pub least : (ℕ → Bool) → (ℕ → ℕ) → ℕ → ℕ → ℕ
least s f top zero = top
least s f top (suc n) = cond (s n) (min (f n) (least s f top n)) (least s f top n)

-- each member below a number has something left
unfoldable pub room : (ℕ → Bool) → (ℕ → ℕ) → ℕ → Bool
room s f zero = true
room s f (suc n) = (not (s n) || nat_lt 0 (f n)) && room s f n

-- step order: by rank, then by number
abbrev pub no_later : (ℕ → ℕ) → ℕ → ℕ → Bool
no_later rank x y = nat_lt (rank x) (rank y) || (rank x == rank y && nat_le x y)

abbrev pub place : (ℕ → ℕ) → ℕ → List ℕ → List ℕ
place rank e [] = e ∷ []
place rank e (x ∷ xs) = cond (nat_lt (rank e) (rank x)) (e ∷ (x ∷ xs)) (x ∷ place rank e xs)

-- the edges below a number, in step order
abbrev pub order : (ℕ → ℕ) → ℕ → List ℕ
order rank zero = []
order rank (suc e) = place rank e (order rank e)

-- the tokens of a node that taken copies use
abbrev pub used : Basis → List ℕ → ℕ → ℕ
used b taken n = count (λ x. b.source x n) taken

-- one copy: it is taken if each source has a token that is not used
abbrev pub try : Basis → ℕ → List ℕ → List ℕ
try b e taken = cond (room (b.source e) (λ n. b.available n - used b taken n) b.nodes) (taken ++ (e ∷ [])) taken

abbrev pub many : Basis → ℕ → ℕ → List ℕ → List ℕ
many b e zero taken = taken
many b e (suc k) taken = try b e (many b e k taken)

abbrev pub chosen : Basis → List ℕ → List ℕ → List ℕ
chosen b taken [] = taken
chosen b taken (e ∷ es) = chosen b (many b e (b.enabled e) taken) es

-- the edges that the step takes, in step order
abbrev pub greedy : Basis → (ℕ → ℕ) → List ℕ
greedy b rank = chosen b [] (order rank b.edges)
