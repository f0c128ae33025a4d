use Rattle.reader.proofs.Reading.{then, stopped}
use Rattle.reader.proofs.decode.RawEdgeDecode.decode.Goals as goal

pub returns-in_err-sources : goal.returns-in_err-sources
returns-in_err-sources c =
    then _ c.in_ok-map.ensures (then _ c.in_ok-trigger.ensures (then _ c.in_ok-after.ensures (then _ c.in_ok-when.ensures
    (then _ c.in_ok-guard.ensures (then _ c.in_ok-send.ensures (stopped _ c.in_err-sources.ensures c.from_residual-in_err-sources.ensures.1))))))

pub returns-in_err-targets : goal.returns-in_err-targets
returns-in_err-targets c =
    then _ c.in_ok-map.ensures (then _ c.in_ok-trigger.ensures (then _ c.in_ok-after.ensures (then _ c.in_ok-when.ensures
    (then _ c.in_ok-guard.ensures (then _ c.in_ok-send.ensures (then _ c.in_ok-sources.ensures
    (stopped _ c.in_err-targets.ensures c.from_residual-in_err-targets.ensures.1)))))))
