-- What one turn of a loop over records keeps.
use Rattle.std.proofs.Common.{◌≡◌, ℕ, zero, suc, ◌+◌, ◌<◌, ◌≤◌, List, [], ◌∷◌, ◌++◌, map, length, IsErrAnd, Result, Vec, sym, refl, ap, ◌∙◌, subst, arith, length-append}
use Rattle.std.specs.List.{between}
use Rattle.std.specs.declared.alloc.Global.{Global}
use Rattle.std.proofs.lemmas.Result.{err_from_is_err_and}
use Rattle.layout.specs.declared.record.Parsed.{Parsed}
use Rattle.layout.specs.declared.refusal.ReadError.{ReadError}
use Rattle.layout.specs.declared.refusal.ReadError.TheVariants.{Invalid}
use Rattle.layout.specs.declared.refusal.Refusal.{Refusal}
use Rattle.layout.specs.Reader.{Out, got, bad, bind, many}
use Rattle.layout.specs.Records.{Piece, piece}
use Rattle.layout.proofs.Exact.{on}
use Rattle.reader.specs.declared.cursor.Cursor.{Cursor}
use Rattle.reader.specs.Walk.{Cut, Handed, HandedAll, HandsAll}

module _ {A : Type 0} (p : List ℕ → ℕ → Out A) (make : ℕ → List ℕ → Piece) (bs : List ℕ) where
  cut_snoc : (i : ℕ) (vs : List (Parsed A)) (j : ℕ) (v : Parsed A) (k : ℕ) → Cut p make bs i vs j → p bs j ≡ got v.value k → k ≤ length bs → piece v.record ≡ make j (between j k bs) → Cut p make bs i (vs ++ v ∷ []) k
  cut_snoc i [] j v k c r h e = subst (λ l. Cut p make bs l (v ∷ []) k) (sym c) (k, r, h, e, refl)
  cut_snoc i (w ∷ vs) j v k c r h e = (c.0, c.1, c.2, c.3, cut_snoc c.0 vs j v k c.4 r h e)

  pub many-cut : (i : ℕ) (vs : List (Parsed A)) (j : ℕ) → Cut p make bs i vs j → many p (length vs) bs i ≡ got (map (λ v. v.value) vs) j
  many-cut i [] j c = ap (got []) c
  many-cut i (v ∷ vs) j c = on (p bs i) _ c.1 (on (many p (length vs) bs c.0) _ (many-cut c.0 vs j c.4) refl)

  -- a refusal behind records that were read
  many_bad : (n i : ℕ) (vs : List (Parsed A)) (j : ℕ) (e : Refusal) → length vs < n → Cut p make bs i vs j → p bs j ≡ bad e → many p n bs i ≡ bad e
  many_bad zero i vs j e h c r = absurd (omega arith)
  many_bad (suc n) i [] j e h c r = ap (λ o. bind o (λ x k. bind (many p n bs k) (λ xs l. got (x ∷ xs) l))) (ap (p bs) c ∙ r)
  many_bad (suc n) i (v ∷ vs) j e h c r = on (p bs i) _ c.1 (ap (λ o. bind o (λ xs l. got (v.value ∷ xs) l)) (many_bad n c.0 vs j e (omega arith) c.4 r))

-- t records were read from c's place on as vs, and the cursor is now d
pub record Sofar {A : Type 0} (p : List ℕ → ℕ → Out A) (make : ℕ → List ℕ → Piece) (t : ℕ) (c d : Cursor) (vs : List (Parsed A)) : Type 0 where
  pub same : d.bytes.now ≡ c.bytes.now
  pub all : length vs ≡ t
  pub parts : Cut p make c.bytes.now c.place vs d.place

module _ {A : Type 0} {p : List ℕ → ℕ → Out A} {make : ℕ → List ℕ → Piece} {t : ℕ} {c d : Cursor} where
  pub more : {vs : List (Parsed A)} {v : Parsed A} {d' : Cursor} → Sofar p make t c d vs → Handed p make d d' v → Sofar p make (t + 1) c d' (vs ++ v ∷ [])
  more {vs} {v} {d'} s r =
      record {
        same = r.same ∙ s.same;
        all = omega (arith, length-append vs (v ∷ []), s.all);
        parts =
            cut_snoc p make c.bytes.now c.place vs d.place v d'.place s.parts
            (ap (λ bs. p bs d.place) (sym s.same) ∙ r.value)
            (omega (arith, d'.within, ap length r.same, ap length s.same))
            (r.part ∙ ap (λ bs. make d.place (between d.place d'.place bs)) s.same);
      }

  pub stop : {n : ℕ} {vs : List (Parsed A)} {e : Refusal} (d' : Cursor) (r : Result (Vec (Parsed A) Global) ReadError) → t < n → Sofar p make t c d vs → p d.bytes.now d.place ≡ bad e → IsErrAnd r (λ y. y ≡ Invalid e) → HandsAll p make n c d' r
  stop {n} {vs} {e} d' r h s q k =
      let f = err_from_is_err_and r k in
      rw (f.1, f.2) (many_bad p make c.bytes.now n c.place vs d.place e (omega (arith, s.all)) s.parts (ap (λ bs. p bs d.place) (sym s.same) ∙ q))

  pub done : {n : ℕ} {vs : List (Parsed A)} → Sofar p make t c d vs → n ≡ t → HandedAll p make n c d vs
  done {n} {vs} s h =
      let read = many-cut p make c.bytes.now c.place vs d.place s.parts in
      record { same = s.same; all = s.all ∙ sym h; value = ap (λ k. many p k c.bytes.now c.place) (h ∙ sym s.all) ∙ read; parts = s.parts }
