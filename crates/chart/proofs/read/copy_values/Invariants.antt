use Rattle.std.proofs.Common.{◌≡◌, map, length, take}
use Rattle.chart.proofs.read.copy_values.Given as goal

-- the places up to here hold the values, and there are as many places as before
abbrev pub invariant-loop-k : goal.invariant-loop-k
invariant-loop-k g l = (take l.k l.places ≡ map (λ p. p.value) (take l.k l.parsed)) × (length l.places ≡ length l.initial.places)
