use Rattle.std.proofs.Common.{arith}
use Rattle.std.proofs.lemmas.Grind.{common_steps}
use Rattle.bag.specs.Held.{held}
use Rattle.bag.proofs.Leaving.{take_first_law}
use Rattle.bag.proofs.Bag.take_first.Goals as goal

pub returns-then-is_empty-clause-law : goal.returns-then-is_empty-clause-law
returns-then-is_empty-clause-law g c =
    let laws = g.met.R.Ranked in
    take_first_law g.R.Ranked.before laws.asymmetric laws.transitive (held c.args.self.now) _ _ (grind (arith, common_steps)) (grind (arith, common_steps))

pub returns-clause-law : goal.returns-clause-law
returns-clause-law g c =
    let laws = g.met.R.Ranked in
    take_first_law g.R.Ranked.before laws.asymmetric laws.transitive (held c.args.self.now) _ _ (grind (arith, common_steps)) (grind (arith, common_steps))
