use Rattle.std.proofs.Common.{◌≡◌, ℕ, List, ◌++◌, drop}
use Rattle.std.specs.Fmt.{HasWritten, IsPlainFormatter}
use Rattle.chart_text.specs.Words.{node_line, node_lines, lines}
use Rattle.chart_text.proofs.describe.NodeLinesDisplay.fmt.Given as goal

-- what is written so far, and the lines that are left
abbrev pub invariant-loop-number : goal.invariant-loop-number
invariant-loop-number g l =
    IsPlainFormatter l.initial.f
    → (done : List ℕ) × HasWritten g.W.Write.write_str_gives l.initial.f done l.f × (done ++ lines (λ n. node_line n.0 n.1 l.self.edges.now) l.number (drop l.number l.self.nodes.now) ≡ node_lines l.self.edges.now l.self.nodes.now)
