use Rattle.std.proofs.Common.{subst}
use Rattle.chart.specs.Law.{Misfits}
use Rattle.chart.proofs.read.refuse.Goals as goal

pub returns-in-Broken-clause-judged : goal.returns-in-Broken-clause-judged
returns-in-Broken-clause-judged c = (c.in-Broken.breach.index, (subst (λ u. Misfits c.args.raw.now u) c.in-Broken.is c.requires.misfit).0, c.place_of.ensures)
