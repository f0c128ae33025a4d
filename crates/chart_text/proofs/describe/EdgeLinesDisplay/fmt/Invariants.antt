use Rattle.std.proofs.Common.{◌≡◌, ℕ, List, ◌++◌, drop}
use Rattle.std.specs.Fmt.{HasWritten, IsPlainFormatter}
use Rattle.chart_text.specs.Words.{edge_line, edge_lines, lines}
use Rattle.chart_text.proofs.describe.EdgeLinesDisplay.fmt.Given as goal

-- what is written so far, and the lines that are left
abbrev pub invariant-loop-number : goal.invariant-loop-number
invariant-loop-number g l =
    IsPlainFormatter l.initial.f
    → (done : List ℕ) × HasWritten g.W.Write.write_str_gives l.initial.f done l.f × (done ++ lines (λ e. edge_line e.0 e.1) l.number (drop l.number l.self.0.now) ≡ edge_lines l.self.0.now)
