use Rattle.std.proofs.Common.{Some, arith}
use Rattle.bag.specs.Held.{held}
use Rattle.bag.proofs.Leaving.{find_found, without_found, take_law}
use Rattle.bag.proofs.Bag.take_tag.Goals as goal

pub returns-clause-law : goal.returns-clause-law
returns-clause-law g c =
    let laws = g.met.R.Ranked in
    take_law g.R.Ranked.before laws.asymmetric laws.transitive (g.R.Tagged.tagged c.args.tag) (held c.args.self.now)
    (Some c.take_at.result) (held c.take_at.new.self)
    (grind (arith, find_found)) (grind (arith, without_found))
