use Rattle.std.proofs.Common.{true, refl}
use Rattle.std.proofs.Output.{has_written_append}
use Rattle.chart_text.specs.Words.{node_line}
use Rattle.chart_text.proofs.Lines.{lines_more}
use Rattle.chart_text.proofs.describe.NodeLinesDisplay.fmt.Goals as goal

pub loop-number-preserved : goal.loop-number-preserved
loop-number-preserved g c =
    λ plain.
    let now = c.loop-number.invariant plain in (
      _,
      has_written_append _ _ _ _ _ _ now.1 (c.in_ok-write.ensures.writes now.1.plain (refl {a = true})),
      lines_more (λ n. node_line n.0 n.1 c.args.self.now.edges.now) c.args.self.now.nodes.now c.loop-number.number now.0 _ _ c.loop-number-test.true now.2,
    )
