-- One read after another.
use Rattle.std.proofs.Common.{◌≡◌, ℕ, List, IsErrAnd, Ok, Err, Result, sym, ap, ◌∙◌, arith}
use Rattle.std.proofs.lemmas.Result.{err_from_is_err_and}
use Rattle.layout.specs.declared.refusal.Refusal.{Refusal}
use Rattle.layout.specs.Reader.{Out, bind}
use Rattle.layout.proofs.Exact.{on}
use Rattle.reader.specs.declared.cursor.Cursor.{Cursor}
use Rattle.reader.specs.Walk.{Reads}

module _ {A B : Type 0} {p : List ℕ → ℕ → Out A} (q : A → List ℕ → ℕ → Out B) {c d : Cursor} where
  -- the first read gave v, and the next went on from there
  pub then : {v : A} {e : Cursor} {r : Result B Refusal} → Reads p c d (Ok v) → Reads (q v) d e r → Reads (λ bs i. bind (p bs i) (λ x j. q x bs j)) c e r
  then {v} {e} {r} x y =
      record {
        same = y.same ∙ x.same;
        value = on (p c.bytes.now c.place) _ x.value (ap (λ bs. q v bs d.place) (sym x.same) ∙ y.value);
        ahead = omega arith;
      }

  -- the first read was refused
  pub stopped : {x : Refusal} {r : Result B Refusal} → Reads p c d (Err x) → IsErrAnd r (λ y. y ≡ x) → Reads (λ bs i. bind (p bs i) (λ x j. q x bs j)) c d r
  stopped {x} {r} y e =
      let s = err_from_is_err_and r e in
      record { same = y.same; value = rw (s.1, s.2) (ap (λ o. bind o (λ x j. q x c.bytes.now j)) y.value); ahead = y.ahead }
