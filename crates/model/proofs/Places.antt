-- How often nodes are entered. Assumes nothing.
use Rattle.std.proofs.Common.{◌≡◌, ℕ, zero, suc, ◌<◌, ◌≤◌, Bool, cond, List, [], ◌∷◌, ◌==◌, refl, arith, length, length-append}
use Rattle.std.proofs.lemmas.Bool.Decides.{nat_tests}
use Rattle.std.proofs.lemmas.List.Sums.{count_by-le-length}
use Rattle.model.specs.Choice.{count, total}
use Rattle.model.specs.Graph.{Graph, action, members, entered}
use Rattle.model.specs.Steps.{entering, new_orders}
use Rattle.model.proofs.Counts.{count-cons, count-append, total_add, total_le}

-- each member stands once
members_none : (p : ℕ → Bool) (k n : ℕ) → k ≤ n → count (λ m. m == n) (members p k) ≡ 0
members_none p zero n h = refl
members_none p (suc k) n h = grind (arith, nat_tests, count-append (λ m. m == n) (members p k) (cond (p k) (k ∷ []) []), count-cons (λ m. m == n) k [], members_none p k n)

members_one : (p : ℕ → Bool) (k n : ℕ) → n < k → count (λ m. m == n) (members p k) ≡ cond (p n) 1 0
members_one p zero n h = absurd (omega arith)
members_one p (suc k) n h =
    grind (arith, nat_tests, count-append (λ m. m == n) (members p k) (cond (p k) (k ∷ []) []), count-cons (λ m. m == n) k [], members_none p k n, members_one p k n)

-- a node is entered as often as edges enter it
pub entered_count : (c : Graph) (n : ℕ) (xs : List ℕ) → n < c.nodes → count (λ m. m == n) (entered c xs) ≡ entering c xs n
entered_count c n [] h = refl
entered_count c n (x ∷ xs) h =
    omega (
      arith,
      count-append (λ m. m == n) (members (c.target x) c.nodes) (entered c xs),
      members_one (c.target x) c.nodes n h,
      entered_count c n xs h,
      count-cons (λ e. c.target e n) x xs,
    )

-- AS MANY NODES ARE ENTERED AS TOKENS COME

length_members : (p : ℕ → Bool) (k : ℕ) → length (members p k) ≡ total (λ n. cond (p n) 1 0) k
unfolding total
length_members p zero = refl
length_members p (suc k) = grind (arith, length-append (members p k) (cond (p k) (k ∷ []) []), length_members p k)

length_entered : (c : Graph) (xs : List ℕ) → length (entered c xs) ≤ total (entering c xs) c.nodes
length_entered c [] = omega arith
length_entered c (x ∷ xs) =
    omega (
      arith,
      length-append (members (c.target x) c.nodes) (entered c xs),
      length_members (c.target x) c.nodes,
      length_entered c xs,
      total_add (entering c (x ∷ xs)) (λ n. cond (c.target x n) 1 0) (entering c xs) c.nodes (λ n. count-cons (λ e. c.target e n) x xs),
    )

pub new_orders_le : (c : Graph) (xs : List ℕ) (f : ℕ → ℕ) → ((n : ℕ) → n < c.nodes → entering c xs n ≤ f n) → new_orders c xs ≤ total f c.nodes
new_orders_le c xs f h = omega (arith, count_by-le-length (action c) (entered c xs), length_entered c xs, total_le (entering c xs) f c.nodes h)
