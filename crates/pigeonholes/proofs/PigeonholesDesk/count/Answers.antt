use Rattle.std.proofs.Common.{length, arith}
use Rattle.std.proofs.lemmas.List.{at_drop_all}
use Rattle.pigeonholes.specs.Holes.{held}
use Rattle.desk.specs.SetLaws.{length-sorted}
use Rattle.pigeonholes.proofs.PigeonholesDesk.count.Goals as goal

pub returns : goal.returns
returns c s =
    omega (arith, s.long, at_drop_all (λ hs. length (held hs)) c.args.self.now.holes c.loop-hole.hole-index (omega (arith, s.long)), length-sorted (held c.args.self.now.holes))
