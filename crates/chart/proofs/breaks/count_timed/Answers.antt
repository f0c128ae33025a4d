use Rattle.std.proofs.Common.{rules, tests, ◌∙◌}
use Rattle.std.proofs.lemmas.Iterator.{YieldsList-from_slice}
use Rattle.std.proofs.lemmas.Iterator.Consumers.{YieldsList-from_filter, count_from_yields_List}
use Rattle.std.proofs.lemmas.List.Sums.{length-filter}
use Rattle.chart.specs.Edges.{timed}
use Rattle.chart.proofs.breaks.count_timed.Goals as goal

pub returns : goal.returns
returns c = count_from_yields_List _ _ c.count.ensures.ran (YieldsList-from_filter _ timed (YieldsList-from_slice c.args.edges.now cc) c.filter.ensures.closure (λ x r q k. search (rules, tests))) ∙ length-filter timed c.args.edges.now
