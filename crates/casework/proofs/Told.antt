-- The answer to a chart file, from the answers of its parts.
use Rattle.std.proofs.Common.{◌≡◌, ℕ, List, IfOk, Ok, Err, vec_items, string_bytes, Result, String, ap, ◌∙◌, inl}
use Rattle.std.specs.declared.alloc.AllocError.{AllocError}
use Rattle.std.specs.declared.alloc.Global.{Global}
use Rattle.layout.specs.declared.parts.Node.{Node}
use Rattle.chart.specs.declared.edge.Edge.{Edge}
use Rattle.chart.specs.declared.chart.Chart.{Chart}
use Rattle.chart.specs.Law.{parts_of, verdict, accepted}
use Rattle.chart_text.specs.Words.{description}
use Rattle.casework.specs.Answers.{Told}

pub told_chart : (text bs : List ℕ) (c : Chart) (ns : List Node) (es : List Edge) (r : Result (String Global) AllocError) → verdict bs ≡ accepted (parts_of c) → ns ≡ vec_items c.nodes → es ≡ vec_items c.edges → IfOk r (λ s. string_bytes s ≡ description ns es) → IfOk r (λ s. Told text bs (string_bytes s))
told_chart text bs c ns es (Ok s) v en ee h = inl (c, v, h ∙ (ap (λ (l : List Node). description l es) en ∙ ap (description (vec_items c.nodes)) ee))
told_chart text bs c ns es (Err x) v en ee h = tt
