use Rattle.std.proofs.Common.{rules, append_assoc}
use Rattle.std.proofs.lemmas.Result.{IfOk-equal}
use Rattle.encoder.proofs.encode.RawEdgeEncode.put.Goals as goal

pub returns : goal.returns
returns c = IfOk-equal _ _ _ _ c.put-8.ensures (search (rules, append_assoc))
