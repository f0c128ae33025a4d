-- A policy that is told of one edge after another. Assumes nothing.
use Rattle.std.specs.Prelude.{ℕ, List}
use Rattle.std.specs.List.{FoldsTo}

-- `Told moves p es q`: a policy `p` that was told of exactly the edges `es`, in that order, was then `q`
abbrev pub Told : {P : Type 0} → (P → ℕ → P → Type 0) → P → List ℕ → P → Type 0
Told moves p es q = FoldsTo moves p es q
