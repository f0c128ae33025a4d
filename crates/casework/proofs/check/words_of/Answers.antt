use Rattle.casework.proofs.Told.{told_chart}
use Rattle.casework.proofs.check.words_of.Goals as goal

pub returns-in-Ok : goal.returns-in-Ok
returns-in-Ok c = told_chart c.args.text.now c.args.bytes.now c.in-Ok.chart _ _ _ c.in-Ok.ensures.exact c.nodes.ensures c.edges.ensures c.describe.ensures
