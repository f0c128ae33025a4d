use denote.Shadow.{shadow}
use denote.Text.{Utf8}
use Rattle.std.proofs.Common.{◌≡◌, codes, decimal}
use Rattle.std.specs.Fmt.{HasWritten, IsPlainFormatter}
use Rattle.std.specs.List.{join_by}
use Rattle.chart_text.specs.Words.{members_below}
use Rattle.chart_text.proofs.Sets.{separator}
use Rattle.chart_text.proofs.edges.WordsNodeSetDisplay.fmt.Given as goal

abbrev pub invariant-loop-node : goal.invariant-loop-node
invariant-loop-node g l =
    record {
      text : shadow (Utf8 l.separator);
      next : l.separator ≡ separator (members_below l.self.0.bits l.node-counter);
      written : IsPlainFormatter l.initial.f → HasWritten g.W.Write.write_str_gives l.initial.f (join_by decimal (codes ", ") (members_below l.self.0.bits l.node-counter)) l.f;
    }
