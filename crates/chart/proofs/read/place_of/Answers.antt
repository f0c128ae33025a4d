use Rattle.std.proofs.Common.{rules, ap, ◌∙◌}
use Rattle.layout.specs.Records.{place_of}
use Rattle.layout.specs.declared.record.Parsed.{Parsed}
use Rattle.layout.specs.declared.parts.Node.{Node}
use Rattle.layout.specs.declared.parts.RawEdge.{RawEdge}
use Rattle.chart.proofs.Judged.{node_at, edge_at}
use Rattle.chart.proofs.read.place_of.Goals as goal

pub returns-then-of_nodes : goal.returns-then-of_nodes
returns-then-of_nodes c = c.place.ensures ∙ ap (λ (p : Parsed Node). place_of p.record) c.index.ensures ∙ node_at c.args.raw.now c.requires.ready c.args.breach.rule c.args.breach.index _ (search rules) c.requires.within

pub returns-else-of_nodes : goal.returns-else-of_nodes
returns-else-of_nodes c = c.place-else-of_nodes.ensures ∙ ap (λ (p : Parsed RawEdge). place_of p.record) c.index-else-of_nodes.ensures ∙ edge_at c.args.raw.now c.requires.ready c.args.breach.rule c.args.breach.index _ (search rules) c.requires.within
