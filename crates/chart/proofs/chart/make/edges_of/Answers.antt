use Rattle.std.proofs.Common.{◌≡◌, false, List, map, vec_items, IfOk, rules, tests, refl, sym, subst}
use Rattle.std.proofs.lemmas.List.{map-id}
use Rattle.std.proofs.lemmas.Iterator.{YieldsList-from_slice, YieldsList-from_map_by}
use Rattle.std.proofs.lemmas.Iterator.Adapters.{serves_from_places}
use Rattle.std.proofs.lemmas.Iterator.Consumers.{map_from_collect}
use Rattle.layout.specs.declared.parts.RawEdge.{RawEdge}
use Rattle.chart.specs.Edges.{raw_of, several}
use Rattle.chart.proofs.chart.make.edges_of.Goals as goal

pub collect-requires-clause-can : goal.collect-requires-clause-can
collect-requires-clause-can c = (tt, serves_from_places (YieldsList-from_slice c.args.raw.now cc) (λ x q k. refl) (λ x k h e. subst (λ (r : RawEdge). several r ≡ false) (sym e) (c.requires k x.now h)))

pub returns : goal.returns
returns c = subst (λ (xs : List RawEdge). IfOk c.collect.result (λ v. map raw_of (vec_items v) ≡ xs)) (map-id c.args.raw.now) (map_from_collect c.collect.result c.collect.ensures.ran (YieldsList-from_map_by _ raw_of (λ x. x) (YieldsList-from_slice c.args.raw.now cc) c.map.ensures.closure (λ x r q k. search (rules, tests))))
