use Rattle.std.proofs.Common.{vec_items}
use Rattle.reader.proofs.Runs.{Sofar}
use Rattle.reader.proofs.records.all_parsed.Given as goal

abbrev pub invariant-loop-i : goal.invariant-loop-i
invariant-loop-i g l = Sofar (g.T.Decode.part_at l.limits) g.T.Recorded.piece_of l._i l.initial.cursor l.cursor (vec_items l.all)
