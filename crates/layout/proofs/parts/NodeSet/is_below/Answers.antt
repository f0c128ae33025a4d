use Rattle.std.proofs.Common.{◌≡◌, ◌/◌, ◌^◌, arith, rules}
use Rattle.layout.proofs.Sets.{none_left}
use Rattle.layout.proofs.parts.NodeSet.is_below.Goals as goal

pub returns-then-nodes-ge32 : goal.returns-then-nodes-ge32
returns-then-nodes-ge32 c =
    let none : c.args.self.bits / 2 ^ c.args.nodes ≡ 0 = none_left _ _ (omega arith) (omega arith) in
    search rules
