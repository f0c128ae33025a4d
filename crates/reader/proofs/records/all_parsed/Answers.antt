use Rattle.std.proofs.Common.{arith}
use Rattle.reader.proofs.Runs.{more, stop, done}
use Rattle.reader.proofs.records.all_parsed.Goals as goal

pub returns-in_err-parsed : goal.returns-in_err-parsed
returns-in_err-parsed g c = stop _ _ c.loop-i-test.true c.loop-i.invariant c.in_err-parsed.ensures c.from_residual.ensures.1

pub loop-i-preserved : goal.loop-i-preserved
loop-i-preserved g c = rw c.in_ok-push.ensures.items (more c.loop-i.invariant c.in_ok-parsed.ensures)

pub returns : goal.returns
returns g c = done c.loop-i.invariant (omega arith)
