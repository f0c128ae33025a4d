use Rattle.std.proofs.Common.{refl}
use lib.Count.{ones}
use Rattle.chart.proofs.samples.bill.Goals as goal

pub returns-clause-samples : goal.returns-clause-samples
unfolding ones
returns-clause-samples c = record { reads = refl; written = refl; less_a_byte = refl; wrong_map = refl; waiting_action = refl }
