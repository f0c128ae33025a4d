use Rattle.std.proofs.Common.{◌≡◌, ℕ, List, [], ◌∷◌, map, ◌||◌, Bool, refl, ap, ◌∙◌, rules, tests}
use Rattle.std.specs.List.{list_any}
use Rattle.std.proofs.lemmas.Iterator.{YieldsList-from_slice}
use Rattle.std.proofs.lemmas.Iterator.Search.{any_from_yields_List}
use Rattle.layout.specs.Sets.{member}
use Rattle.chart.specs.declared.edge.Edge.{Edge}
use Rattle.chart.specs.Edges.{raw_of}
use Rattle.chart.specs.Rules.{sourced}
use Rattle.chart_text.proofs.kinds.is_source.Goals as goal

-- an edge in the bytes has the same sources
same : (es : List Edge) (k : ℕ) → list_any (λ e. member e.sources.bits k) es ≡ sourced (map raw_of es) k
same [] k = refl
same (e ∷ es) k = ap (λ (b : Bool). member e.sources.bits k || b) (same es k)

pub returns : goal.returns
returns c = any_from_yields_List (λ (e : Edge). member e.sources.bits c.args.node) _ _ _ c.any.ensures.ran (YieldsList-from_slice c.args.edges.now cc) (λ x b q k. search (rules, tests)) ∙ same c.args.edges.now c.args.node
