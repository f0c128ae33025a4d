-- Membership in a set of nodes that is kept as bits.
use Rattle.std.specs.Prelude.{ℕ, ◌/◌, ◌%◌, ◌^◌, Bool, ◌==◌}

-- node k is in the set exactly if bit k stands
abbrev pub member : ℕ → ℕ → Bool
member bits k = bits / 2 ^ k % 2 == 1
