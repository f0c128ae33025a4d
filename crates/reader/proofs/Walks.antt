-- A walk over all records of a chart, and the records that it cut.
use Rattle.std.proofs.Common.{◌≡◌, ℕ, ◌+◌, ◌-◌, ◌≤◌, ltb, leb, List, [], ◌∷◌, ◌++◌, map, length, take, drop, Ok, vec_items, sym, refl, ap, ◌∙◌, subst, arith, length-append, length-drop, le-ltb}
use Rattle.std.specs.List.{between, flat_map}
use Rattle.std.proofs.lemmas.List.{length-map, take_at}
use Rattle.reader.specs.declared.cursor.Cursor.{Cursor}
use Rattle.layout.specs.declared.chart.RawChart.{RawChart}
use Rattle.layout.specs.declared.record.Parsed.{Parsed}
use Rattle.layout.specs.Reader.{Out, got, byte, count, many, node, edge}
use Rattle.layout.specs.Records.{Piece, piece, pieces, node_piece, edge_piece}
use Rattle.layout.specs.Layout.{Bytes, node_bytes, edge_bytes, encode}
use Rattle.layout.specs.Law.{Parted, parts_of}
use Rattle.layout.proofs.Exact.{Exact, on, no_on, via, past, node_exact, edge_exact, accepts}
use Rattle.reader.specs.Walk.{Cut, HandedAll, Reads, Walked}

count_next : (low high : ℕ) (bs : List ℕ) (i v j : ℕ) → count low high bs i ≡ got v j → j ≡ i + 1
count_next low high bs i v j e =
    via (byte bs i) _ e (λ w k r e1.
    past (leb low w) _ _ e1 (λ l e2.
    past (leb w high) _ _ e2 (λ u e3.
    past (ltb i (length bs)) _ _ r (λ inside f.
    let a : i + 1 ≡ k = cc in
    let b : k ≡ j = cc in
    omega arith))))

module _ (bs : List ℕ) (c : RawChart) (n m : ℕ) where
  pub walked : (cursor0 cursor1 cursor2 cursor3 cursor4 : Cursor) → cursor0.bytes.now ≡ bs → cursor0.place ≡ 0 → Reads (count 2 32) cursor0 cursor1 (Ok n) → Reads (count 1 64) cursor1 cursor2 (Ok m) → HandedAll node node_piece n cursor2 cursor3 (vec_items c.nodes) → HandedAll (edge n) edge_piece m cursor3 cursor4 (vec_items c.edges) → length bs ≤ cursor4.place → Walked bs c
  walked cursor0 cursor1 cursor2 cursor3 cursor4 b0 p0 r1 r2 h3 h4 end =
      let b1 = r1.same ∙ b0 in
      let b2 = r2.same ∙ b1 in
      let b3 = h3.same ∙ b2 in
      let v1 : count 2 32 bs 0 ≡ got n cursor1.place = ap (λ (x : List ℕ). count 2 32 x 0) (sym b0) ∙ ap (count 2 32 cursor0.bytes.now) (sym p0) ∙ r1.value in
      let v2 : count 1 64 bs cursor1.place ≡ got m cursor2.place = ap (λ (x : List ℕ). count 1 64 x cursor1.place) (sym b1) ∙ r2.value in
      let v3 : many node n bs cursor2.place ≡ got (parts_of c).nodes cursor3.place = ap (λ (x : List ℕ). many node n x cursor2.place) (sym b2) ∙ h3.value in
      let v4 : many (edge n) m bs cursor3.place ≡ got (parts_of c).edges cursor4.place = ap (λ (x : List ℕ). many (edge n) m x cursor3.place) (sym b3) ∙ h4.value in
      let q1 = count_next 2 32 bs 0 n cursor1.place v1 in
      let q2 = count_next 1 64 bs cursor1.place m cursor2.place v2 in
      let at : cursor2.place ≡ 2 = omega arith in
      let last : cursor4.place ≡ length bs = omega (arith, cursor4.within, ap length (h4.same ∙ b3)) in
      let many-nodes : n ≡ length (map (λ (v : Parsed _). v.value) (vec_items c.nodes)) = sym (length-map (vec_items c.nodes) (λ v. v.value) ∙ h3.all) in
      record {
        value = on (count 2 32 bs 0) _ v1 (on (count 1 64 bs cursor1.place) _ v2 (on (many node n bs cursor2.place) _ v3 (on (many (edge n) m bs cursor3.place) _ v4 (no_on (ltb cursor4.place (length bs)) _ _ (le-ltb _ _ end) refl))));
        split = cursor3.place;
        node_parts = subst (λ (k : ℕ). Cut node node_piece bs k (vec_items c.nodes) cursor3.place) at
            (subst (λ (x : List ℕ). Cut node node_piece x cursor2.place (vec_items c.nodes) cursor3.place) b2 h3.parts);
        edge_parts = subst (λ (k : ℕ). Cut (edge k) edge_piece bs cursor3.place (vec_items c.edges) (length bs)) many-nodes
            (subst (λ (j : ℕ). Cut (edge n) edge_piece bs cursor3.place (vec_items c.edges) j) last
            (subst (λ (x : List ℕ). Cut (edge n) edge_piece x cursor3.place (vec_items c.edges) cursor4.place) b3 h4.parts));
      }

module _ {A : Type 0} {p : List ℕ → ℕ → Out A} {enc : A → List ℕ} {In : A → Type 0} (x : Exact p enc In) (make : ℕ → List ℕ → Piece) (bs : List ℕ) (b : Bytes bs) where
  -- records that were cut where their values were read are the bytes that these values are written as
  cut-pieces : (i : ℕ) (vs : List (Parsed A)) (j : ℕ) → i ≤ length bs → Cut p make bs i vs j → (map (λ v. piece v.record) vs ≡ pieces make enc i (map (λ v. v.value) vs)) × (j ≡ i + length (flat_map enc (map (λ v. v.value) vs)))
  cut-pieces i [] j h c = (refl, omega (arith, c))
  cut-pieces i (v ∷ vs) j h c =
      let k = c.0 in
      let values = map (λ (w : Parsed A). w.value) vs in
      let is = (x.only bs i v.value k b c.1).1 in
      let long : k ≡ i + length (enc v.value) = omega (arith, simp (length-append, length-drop) at (ap length is), c.2) in
      let size : k - i ≡ length (enc v.value) = omega arith in
      let here : between i k bs ≡ enc v.value = ap (take (k - i)) is ∙ ap (λ n. take n (enc v.value ++ drop k bs)) size ∙ take_at (enc v.value) (drop k bs) (length (enc v.value)) refl in
      let rest = cut-pieces k vs j c.2 c.4 in
      let total = length-append (enc v.value) (flat_map enc values) in
      let first : piece v.record ≡ make i (enc v.value) = c.3 ∙ ap (make i) here in
      let others : map (λ (w : Parsed A). piece w.record) vs ≡ pieces make enc (i + length (enc v.value)) values = rest.0 ∙ ap (λ n. pieces make enc n values) long in
      (ap (λ q. q ∷ map (λ (w : Parsed A). piece w.record) vs) first ∙ ap (λ qs. make i (enc v.value) ∷ qs) others, omega (arith, rest.1))

pub parted : (bs : List ℕ) (c : RawChart) → Bytes bs → Walked bs c → Parted (Ok c)
parted bs c b w =
    let ns = (parts_of c).nodes in
    let es = (parts_of c).edges in
    let law = (accepts bs b (parts_of c)).0 w.value in
    let total : length bs ≡ length (encode (parts_of c)) = ap length law.1 in
    let nodes = cut-pieces node_exact node_piece bs b 2 (vec_items c.nodes) w.split (omega arith) w.node_parts in
    let sum = length-append (flat_map node_bytes ns) (flat_map edge_bytes es) in
    let edges = cut-pieces (edge_exact (length ns)) edge_piece bs b w.split (vec_items c.edges) (length bs) (omega (arith, nodes.1)) w.edge_parts in
    (nodes.0, edges.0 ∙ ap (λ (i : ℕ). pieces edge_piece edge_bytes i es) nodes.1)
