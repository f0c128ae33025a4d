use Rattle.std.proofs.Common.{rules}
use Rattle.chart.proofs.Makes.{broken}
use Rattle.chart.proofs.chart.make.kept.Goals as goal

pub returns-in-Some : goal.returns-in-Some
returns-in-Some c = broken _ c.in_ok-parts.parts.nodes.now _ c.in_ok-parts.parts.edges.now _ c.in-Some.ensures (search rules) (search rules)
