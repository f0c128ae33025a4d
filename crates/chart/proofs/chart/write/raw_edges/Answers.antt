use Rattle.std.proofs.Common.{rules, tests}
use Rattle.std.proofs.lemmas.Iterator.{YieldsList-from_slice, YieldsList-from_map, items_from_collect}
use Rattle.chart.specs.Edges.{raw_of}
use Rattle.chart.proofs.chart.write.raw_edges.Goals as goal

pub returns : goal.returns
returns c = items_from_collect c.collect.result c.collect.ensures.ran (YieldsList-from_map _ raw_of (YieldsList-from_slice c.args.edges.now cc) c.map.ensures.closure (λ x r q k. search (rules, tests)))
