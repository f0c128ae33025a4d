use Rattle.std.proofs.Common.{◌≡◌, ◌+◌, ◌≤◌, length, drop}
use Rattle.pigeonholes.specs.Holes.{held}
use Rattle.pigeonholes.proofs.PigeonholesDesk.count.Given as goal

abbrev pub invariant-loop-hole : goal.invariant-loop-hole
invariant-loop-hole l = (l.count ≤ l.hole-index) × (l.count + length (held (drop l.hole-index l.self.holes)) ≡ length (held l.self.holes))
