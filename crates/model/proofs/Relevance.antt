-- The least over the members below a number. Assumes nothing.
use Rattle.std.proofs.Common.{◌≡◌, ℕ, zero, suc, ◌<◌, ◌≤◌, Bool, true, arith}
use Rattle.model.specs.Choice.{least}
use Rattle.model.specs.ChoiceLaw.{Relevant}

module _ (s : ℕ → Bool) (f : ℕ → ℕ) (top : ℕ) where
  least_low : (n : ℕ) → least s f top n ≤ top
  unfolding least
  least_low zero = omega arith
  least_low (suc n) = grind (arith, least_low n)

  least_at : (n k : ℕ) → k < n → s k ≡ true → least s f top n ≤ f k
  unfolding least
  least_at zero k l h = absurd (omega arith)
  least_at (suc n) k l h = grind (arith, least_at n k)

  least_most : (n r : ℕ) → r ≤ top → ((k : ℕ) → k < n → s k ≡ true → r ≤ f k) → r ≤ least s f top n
  unfolding least
  least_most zero r h g = h
  least_most (suc n) r h g = grind (arith, g n, least_most n r h (λ k l. g k (omega arith)))

pub relevant : Relevant
relevant s f top n = (least_low s f top n, least_at s f top n, least_most s f top n)
