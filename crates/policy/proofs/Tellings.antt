-- What follows of being told of a list of edges. Assumes nothing.
use Rattle.std.proofs.Common.{◌≡◌, ℕ, ◌+◌, ◌<◌, ◌≤◌, min, cond, eqb, List, [], ◌∷◌, length, take, get_or, replicate, refl, sym, ap, ◌∙◌, arith}
use Rattle.std.proofs.lemmas.Bool.Decides.{nat_tests}
use Rattle.std.proofs.lemmas.Grind.{common_steps}
use Rattle.std.proofs.lemmas.List.{take_more}
use Rattle.std.proofs.lemmas.List.Sums.{sum_by-cons}
use Rattle.std.proofs.lemmas.Fn.{FoldsTo-push}
use Rattle.policy.specs.declared.even_hand.EvenHand.{EvenHand}
use Rattle.policy.specs.Told.{Told}
use Rattle.policy.specs.Ranks.{Ranks, Raised, Counted, times, most}

-- one more edge of a list
pub told_more : {P : Type 0} (moves : P → ℕ → P → Type 0) (p : P) (edges : List ℕ) (i : ℕ) (q r : P) → i < length edges
    → Told moves p (take i edges) q → moves q (get_or edges i 0) r → Told moves p (take (i + 1) edges) r
told_more moves p edges i q r h t m = rw (take_more edges i 0 h) (FoldsTo-push moves p (take i edges) q (get_or edges i 0) r t m)

-- no edge was taken
below : (n k : ℕ) → get_or (replicate n 0) k 0 ≤ most
below n k = grind (arith, common_steps)

pub none_taken : Ranks most (replicate 64 0)
none_taken = (refl, below 64)

raised_then : (before mid : List ℕ) (e k n : ℕ) → k < 64 → Raised before e mid
    → min most (get_or mid k 0 + n) ≡ min most (get_or before k 0 + (cond (eqb k e) 1 0 + n))
raised_then before mid e k n h m = grind (arith, nat_tests, m k)

-- any policy whose ranks are counts
module _ {P : Type 0} (counts : P → List ℕ) (limited : (p : P) → Ranks most (counts p)) where
  pub counted : (p : P) (es : List ℕ) (q : P) → Told (λ a e b. Raised (counts a) e (counts b)) p es q → Counted (counts p) es (counts q)
  counted p [] q t k h = let l = (limited p).1 k in omega (arith, ap (λ x. get_or (counts x) k 0) t)
  counted p (e ∷ es) q t k h =
      counted t.0 es q t.2 k h ∙ raised_then (counts p) (counts t.0) e k (times k es) h t.1
      ∙ ap (λ n. min most (get_or (counts p) k 0 + n)) (sym (sum_by-cons (λ x. cond (eqb k x) 1 0) e es))

pub counted_evenly : (p : EvenHand) (es : List ℕ) (q : EvenHand) → Told (λ a e b. Raised a.counts e b.counts) p es q → Counted p.counts es q.counts
counted_evenly = counted (λ x. x.counts) (λ x. x.ok)
