use Rattle.std.proofs.Common.{rules, tests, ap, ◌∙◌, subst, List}
use Rattle.std.specs.Iterator.Runs.{ItemsMapTo}
use Rattle.std.specs.Slice.Iter.{iter_rest}
use Rattle.chart.specs.declared.rules.Rule.{Rule}
use Rattle.chart.specs.Judge.{breach}
use Rattle.chart.specs.Judge as judge
use Rattle.chart.proofs.Firsts.{first_from_runs}
use Rattle.chart.proofs.parts.Parts.first_breach.Goals as goal

pub returns : goal.returns
returns c = first_from_runs (breach c.args.self.now.nodes.now c.args.self.now.edges.now) (λ y. y.now) judge.rules _ _ _ c.find_map.ensures.runs (λ p t e. subst (λ (l : List Rule). ItemsMapTo p (λ y. y.now) l) (ap iter_rest e ∙ c.iter.ensures.rest) (c.iter.ensures.runs p t)) (λ x o q k. search (rules, tests))
