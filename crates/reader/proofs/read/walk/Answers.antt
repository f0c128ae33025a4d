use Rattle.std.proofs.Common.{arith}
use Rattle.reader.proofs.Walks.{walked}
use Rattle.reader.proofs.read.walk.Goals as goal

pub returns : goal.returns
returns c =
    walked _ _ _ _ _ _ _ _ _ c.new-cursor.ensures.bytes c.new-cursor.ensures.place c.in_ok-node_count.ensures c.in_ok-edge_count.ensures
    c.in_ok-nodes.ensures c.in_ok-edges.ensures (omega arith)
