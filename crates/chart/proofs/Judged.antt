-- What judging by the rules says of records that were read.
use Rattle.std.proofs.Common.{◌≡◌, ℕ, zero, suc, ◌+◌, ◌<◌, true, false, cond, List, [], ◌∷◌, map, length, get_or, take, vec_items, sym, refl, ap, ◌∙◌, subst, arith}
use Rattle.std.proofs.lemmas.List.{length-map, length-append, get_or-map}
use Rattle.std.specs.List.{flat_map}
use Rattle.layout.specs.declared.record.Record.{Record}
use Rattle.layout.specs.declared.record.Record.TheVariants as record_of
use Rattle.layout.specs.declared.record.Parsed.{Parsed}
use Rattle.layout.specs.declared.chart.RawChart.{RawChart}
use Rattle.layout.specs.declared.parts.Node.{Node}
use Rattle.layout.specs.declared.parts.RawEdge.{RawEdge}
use Rattle.layout.specs.Records.{Piece, piece, pieces, place_of, node_piece, edge_piece}
use Rattle.layout.specs.Layout.{node_bytes, edge_bytes}
use Rattle.chart.specs.declared.refusal.Unfit.{Unfit}
use Rattle.chart.specs.declared.refusal.Unfit.TheVariants.{OutOfRange}
use Rattle.chart.specs.declared.rules.Rule.{Rule}
use Rattle.chart.specs.Range.{fits}
use Rattle.chart.specs.Rules.{of_nodes, records}
use Rattle.chart.specs.Law.{raw_parts, Misfits, Ready, node_place, edge_place, record_place}
use Rattle.chart.proofs.Fits.{in_range_fits}

abbrev piece_place : Piece → ℕ
piece_place (node_piece i bs) = i
piece_place (edge_piece i bs) = i

piece-place : (r : Record) → place_of r ≡ piece_place (piece r)
piece-place (record_of.Node bs i) = refl
piece-place (record_of.Edge bs i) = refl

module _ {A : Type 0} (make : ℕ → List ℕ → Piece) (at : (i : ℕ) (bs : List ℕ) → piece_place (make i bs) ≡ i) (enc : A → List ℕ) where
  -- record k of those from place i on stands behind the k records before it
  piece-at : (xs : List A) (i k : ℕ) (d : Piece) → k < length xs → piece_place (get_or (pieces make enc i xs) k d) ≡ i + length (flat_map enc (take k xs))
  piece-at [] i k d h = absurd (omega arith)
  piece-at (x ∷ xs) i zero d h = at i (enc x) ∙ omega arith
  piece-at (x ∷ xs) i (suc k) d h = let r = piece-at xs (i + length (enc x)) k d (omega arith) in let s = length-append (enc x) (flat_map enc (take k xs)) in omega arith

  parsed-at : (ps : List (Parsed A)) (i k : ℕ) (d : Parsed A) → map (λ p. piece p.record) ps ≡ pieces make enc i (map (λ p. p.value) ps) → k < length ps → place_of (get_or ps k d).record ≡ i + length (flat_map enc (take k (map (λ p. p.value) ps)))
  parsed-at ps i k d e h =
      piece-place (get_or ps k d).record
      ∙ ap piece_place (sym (get_or-map (λ (p : Parsed A). piece p.record) ps k d (piece d.record) h))
      ∙ ap (λ l. piece_place (get_or l k (piece d.record))) e
      ∙ piece-at (map (λ p. p.value) ps) i k (piece d.record) (omega (arith, length-map ps (λ (p : Parsed A). p.value)))

module _ (raw : RawChart) (ready : Ready raw) where
  pub node_at : (r : Rule) (k : ℕ) (d : Parsed Node) → true ≡ of_nodes r → k < records r (raw_parts raw).nodes (raw_parts raw).edges → place_of (get_or (vec_items raw.nodes) k d).record ≡ record_place r (raw_parts raw).nodes (raw_parts raw).edges k
  node_at r k d t h =
      let l = length-map (vec_items raw.nodes) (λ (p : Parsed Node). p.value) in
      let m = subst (λ b. k < cond b (length (raw_parts raw).nodes) (length (raw_parts raw).edges)) (sym t) h in
      parsed-at node_piece (λ i bs. refl) node_bytes (vec_items raw.nodes) 2 k d ready.parted.0 (omega arith)
      ∙ ap (λ b. cond b (node_place (raw_parts raw).nodes k) (edge_place (raw_parts raw).nodes (raw_parts raw).edges k)) t

  pub edge_at : (r : Rule) (k : ℕ) (d : Parsed RawEdge) → false ≡ of_nodes r → k < records r (raw_parts raw).nodes (raw_parts raw).edges → place_of (get_or (vec_items raw.edges) k d).record ≡ record_place r (raw_parts raw).nodes (raw_parts raw).edges k
  edge_at r k d t h =
      let l = length-map (vec_items raw.edges) (λ (p : Parsed RawEdge). p.value) in
      let m = subst (λ b. k < cond b (length (raw_parts raw).nodes) (length (raw_parts raw).edges)) (sym t) h in
      parsed-at edge_piece (λ i bs. refl) edge_bytes (vec_items raw.edges) (2 + length (flat_map node_bytes (raw_parts raw).nodes)) k d ready.parted.1 (omega arith)
      ∙ ap (λ b. cond b (node_place (raw_parts raw).nodes k) (edge_place (raw_parts raw).nodes (raw_parts raw).edges k)) t

  pub never_out : (u : Unfit) → Misfits raw u → u ≡ OutOfRange → ⊥
  never_out u m e =
      let no : fits (raw_parts raw).nodes (raw_parts raw).edges ≡ false = subst (λ (x : Unfit). Misfits raw x) e m in
      let yes = in_range_fits (raw_parts raw) ready.in_range in
      cc
