use Rattle.std.proofs.Common.{sym, ◌∙◌, arith, le-ltb}
use Rattle.layout.proofs.Sets.{none_above}
use Rattle.layout.proofs.parts.NodeSet.has.Goals as goal

pub returns-else-node-lt32 : goal.returns-else-node-lt32
returns-else-node-lt32 c = le-ltb _ 32 (omega arith) ∙ sym (none_above _ _ (omega arith) (omega arith))
