-- Facts that are set stay facts. Assumes nothing.
use Rattle.std.proofs.Common.{◌≡◌, ℕ, ◌<◌, true, List, get_or, set, refl, replicate, Option, ◌∙◌, arith}
use Rattle.std.proofs.lemmas.List.{length-set}
use Rattle.std.proofs.lemmas.Grind.{common_steps}
use Rattle.facts.specs.Record.{Held}
use Rattle.facts.specs.Facts.{Facts, small}

pub facts-set : (fs : List (Option ℕ)) (a : ℕ) (v : Option ℕ) → a < 16 → Facts fs → small v ≡ true → Facts (set fs a v)
facts-set fs a v h f s = (length-set fs a v ∙ f.0, λ k. let p = f.1 k in grind (arith, common_steps))

-- bytes of a book that are all 0
below : (n k : ℕ) → get_or (replicate n 0) k 0 < 256
below n k = grind (arith, common_steps)

pub nothing_held : Held (replicate 66 0)
nothing_held = (refl, below 66)
