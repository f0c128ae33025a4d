-- What reading a chart says, from what reading its layout and judging it by the rules say.
use Rattle.std.proofs.Common.{◌≡◌, ℕ, List, Ok, Err, Result, sym, refl, ap, ◌∙◌, subst}
use Rattle.layout.specs.Reader.{got, bad, Parts}
use Rattle.layout.specs.Reader as reader
use Rattle.layout.specs.Layout.{encode}
use Rattle.layout.specs.Law as LayoutLaw
use Rattle.layout.specs.First.{First}
use Rattle.layout.specs.declared.chart.RawChart.{RawChart}
use Rattle.layout.specs.declared.refusal.ReadError as LayoutErrorType
use Rattle.layout.specs.declared.refusal.ReadError.TheVariants as LayoutError
use Rattle.layout.proofs.Exact.{chart-reads}
use Rattle.chart.specs.declared.chart.Chart.{Chart}
use Rattle.chart.specs.declared.refusal.Refusal.TheVariants.{Malformed, Broken}
use Rattle.chart.specs.declared.refusal.ReadError.{ReadError}
use Rattle.chart.specs.declared.refusal.ReadError.TheVariants.{Refused, Memory}
use Rattle.chart.specs.Refusals.{raised}
use Rattle.chart.specs.Rules.{Keeps}
use Rattle.chart.specs.Law.{raw_parts, Judges, Exactly, Lawful, Written, Unambiguous, judged, ruled, accepted, refused}
use Rattle.chart.proofs.Lowest.{keeps, lowest}

module _ (bs : List ℕ) where
  pub exactly : (raw : RawChart) (n : ℕ) (r : Result Chart ReadError) → reader.chart bs 0 ≡ got (raw_parts raw) n → Judges raw r → Exactly bs r
  exactly raw n (Ok c) e j = ap judged e ∙ ap (ruled (raw_parts raw)) j.1 ∙ ap accepted (sym j.0)
  exactly raw n (Err (Refused (Malformed x))) e j = absurd j
  exactly raw n (Err (Refused (Broken r i))) e j = ap judged e ∙ ap (ruled (raw_parts raw)) j.1 ∙ ap (λ k. refused (Broken r k)) (sym j.2)
  exactly raw n (Err Memory) e j = tt

  pub lawful : (raw : RawChart) (r : Result Chart ReadError) → Written bs (raw_parts raw) → Judges raw r → Lawful bs r
  lawful raw (Ok c) w j = subst (λ (p : Parts). Written bs p × Keeps p.nodes p.edges) (sym j.0) (w, keeps (raw_parts raw).nodes (raw_parts raw).edges j.1)
  lawful raw (Err (Refused (Malformed x))) w j = absurd j
  lawful raw (Err (Refused (Broken r i))) w j = (raw_parts raw, w, j.0, lowest (raw_parts raw).nodes (raw_parts raw).edges (record { rule = r; index = j.0 }) j.1, j.2)
  lawful raw (Err Memory) w j = tt

  pub exactly_not : (x : LayoutErrorType.ReadError) (r : ReadError) → LayoutLaw.Exactly bs (Err x) → r ≡ raised x → Exactly bs (Err r)
  exactly_not (LayoutError.Invalid y) r e is = subst (λ (z : ReadError). Exactly bs (Err z)) (sym is) (ap judged e)
  exactly_not LayoutError.Memory r e is = subst (λ (z : ReadError). Exactly bs (Err z)) (sym is) tt

  pub lawful_not : (x : LayoutErrorType.ReadError) (r : ReadError) → LayoutLaw.Lawful bs (Err x) → First bs (Err x) → r ≡ raised x → Lawful bs (Err r)
  lawful_not (LayoutError.Invalid y) r l f is = subst (λ (z : ReadError). Lawful bs (Err z)) (sym is) (λ c w. l c w.0 w.1, f.0)
  lawful_not LayoutError.Memory r l f is = subst (λ (z : ReadError). Lawful bs (Err z)) (sym is) tt

pub unambiguous : Unambiguous
unambiguous c d h k e = let a = chart-reads (encode c) c h refl in let b = chart-reads (encode c) d k e in cc
