-- The position that is found of a byte is where its first digit stands.
use Rattle.std.proofs.Common.{◌≡◌, ℕ, zero, suc, ◌+◌, ◌*◌, Bool, true, false, cond, eqb, ltb, ◌⊎◌, List, [], ◌∷◌, length, is_some, Some, None, Ok, Err, Option, Result, sym, refl, ap, ◌∙◌, inl, inr, ⊎_elim, slice_get, arith}
use Rattle.std.proofs.lemmas.Iterator.Consumers.{nth_from_yields_List, YieldsList-from_first}
use Rattle.std.specs.Iterator.{SkipsThenYields, YieldsFirst}
use Rattle.std.specs.Option.{option_map, option_and_then}
use Rattle.std.specs.Result.{result_ok}
use Rattle.std.proofs.lemmas.Bool.Decides.{nat_tests}
use Rattle.hex_text.specs.declared.text.Position.{Position}
use Rattle.hex_text.specs.declared.text.TextError.{TextError}
use Rattle.hex_text.specs.declared.reader.Sign.{Sign}
use Rattle.hex_text.specs.declared.reader.Sign.TheVariants.{Digit, Space, Hash, Other}
use Rattle.hex_text.specs.declared.reader.State.{State}
use Rattle.hex_text.specs.declared.reader.State.TheVariants.{Between, Half, Comment}
use Rattle.hex_text.specs.declared.reader.Bytes.{Bytes}
use Rattle.hex_text.specs.declared.reader.Mark.{Mark}
use Rattle.hex_text.specs.Reader.{Reader, sign, here, past, step_by}
use Rattle.hex_text.specs.Meaning.{Scan, finish, onward, scan, start, before, said, nth, position_of}
use Rattle.hex_text.specs.Bytes.{left}
use Rattle.hex_text.specs.Laws.{placed, Pair, Stands, Finds}

-- the second digit of a byte
abbrev Second : ℕ → List ℕ → ℕ → Type 0
Second a [] v = ⊥
Second a (e ∷ cs) v = (b : ℕ) × (sign e ≡ Digit b) × (v ≡ a * 16 + b)

-- a byte that a reader finds stands in the text before it, or began with the digit that it has just passed
abbrev Ahead : State → ℕ → ℕ → List ℕ → Mark → Type 0
Ahead Between l n cs m = Stands l n cs m
Ahead (Half a p) l n cs m = Stands l n cs m ⊎ ((m.position ≡ p) × Second a cs m.value)
Ahead Comment l n cs m = Stands l n cs m

further : (b : Bool) (l n : ℕ) (c : ℕ) (cs : List ℕ) (m : Mark) → eqb c 10 ≡ b → Stands (cond b (l + 1) l) (cond b 0 (n + 1)) cs m → Stands l n (c ∷ cs) m
further true l n c cs m e s = record { at = suc s.at; there = ap (λ (b : Bool). cond b (placed (l + 1) 0 cs s.at) (placed l (n + 1) cs s.at)) e ∙ s.there; digits = s.digits }
further false l n c cs m e s = record { at = suc s.at; there = ap (λ (b : Bool). cond b (placed (l + 1) 0 cs s.at) (placed l (n + 1) cs s.at)) e ∙ s.there; digits = s.digits }

pair : (c a : ℕ) (cs : List ℕ) (v : ℕ) → sign c ≡ Digit a → Second a cs v → Pair (c ∷ cs) v
pair c a [] v e s = absurd s
pair c a (x ∷ cs) v e s = (a, s.0, e, s.1, s.2)

first : (r : Reader) (c a : ℕ) (cs : List ℕ) (m : Mark) → sign c ≡ Digit a → Stands (past r c Between).lines (past r c Between).columns cs m ⊎ ((m.position ≡ here r) × Second a cs m.value) → Stands r.lines r.columns (c ∷ cs) m
first r c a cs m e h =
    ⊎_elim (λ s. further (eqb c 10) r.lines r.columns c cs m refl s)
    (λ s. record { at = 0; there = sym s.0; digits = pair c a cs m.value e s.1 }) h

ahead_comment : (b : Bool) (l n : ℕ) (cs : List ℕ) (m : Mark) → Ahead (cond b Between Comment) l n cs m → Stands l n cs m
ahead_comment true l n cs m h = h
ahead_comment false l n cs m h = h

none_is : (m : Mark) → ◌≡◌ {A = Option Mark} None (Some m) → ⊥
none_is m e = let z : ◌≡◌ {A = ℕ} 0 1 = cc in omega arith

no_error : (k : ℕ) (x : TextError) (m : Mark) → nth k (Err x ∷ []) ≡ Some m → ⊥
no_error zero x m h = none_is m h
no_error (suc k) x m h = none_is m h

module _ (c : ℕ) (cs : List ℕ) (m : Mark) (ih : (q : Reader) (k : ℕ) → nth k (scan q cs) ≡ Some m → Ahead q.state q.lines q.columns cs m) where
  second : (k : ℕ) (r : Reader) (a b : ℕ) (p : Position) → sign c ≡ Digit b → nth k (Ok (record { value = a * 16 + b; position = p }) ∷ scan (past r c Between) cs) ≡ Some m → Ahead (Half a p) r.lines r.columns (c ∷ cs) m
  second zero r a b p e h =
      let same : record { value = a * 16 + b; position = p } ≡ m = cc in
      inr (sym (ap (λ (x : Mark). x.position) same), (b, e, sym (ap (λ (x : Mark). x.value) same)))
  second (suc k) r a b p e h = inl (further (eqb c 10) r.lines r.columns c cs m refl (ih (past r c Between) k h))

  one : (k : ℕ) (r : Reader) (st : State) (s : Sign) → sign c ≡ s → nth k (onward (step_by st c (here r) s) (λ q. scan (past r c q) cs)) ≡ Some m → Ahead st r.lines r.columns (c ∷ cs) m
  one k r Between (Digit a) e h = first r c a cs m e (ih (past r c (Half a (here r))) k h)
  one k r Between Space e h = further (eqb c 10) r.lines r.columns c cs m refl (ih (past r c Between) k h)
  one k r Between Hash e h = further (eqb c 10) r.lines r.columns c cs m refl (ih (past r c Comment) k h)
  one k r Between Other e h = absurd (no_error k _ m h)
  one k r (Half a p) (Digit b) e h = second k r a b p e h
  one k r (Half a p) Space e h = absurd (no_error k _ m h)
  one k r (Half a p) Hash e h = absurd (no_error k _ m h)
  one k r (Half a p) Other e h = absurd (no_error k _ m h)
  one k r Comment s e h = further (eqb c 10) r.lines r.columns c cs m refl (ahead_comment (eqb c 10) _ _ cs m (ih (past r c (cond (eqb c 10) Between Comment)) k h))

no_mark : (k : ℕ) (s : State) (m : Mark) → nth k (finish s) ≡ Some m → ⊥
no_mark k Between m h = none_is m h
no_mark k (Half a p) m h = no_error k _ m h
no_mark k Comment m h = none_is m h

ahead : (cs : List ℕ) (m : Mark) (r : Reader) (k : ℕ) → nth k (scan r cs) ≡ Some m → Ahead r.state r.lines r.columns cs m
ahead [] m r k h = absurd (no_mark k r.state m h)
ahead (c ∷ cs) m r k h = one c cs m (ahead cs m) k r r.state (sign c) refl h

-- the bytes that a text says are those that are found
one_more : (m : Mark) (s : Scan) (a : Result (List ℕ) TextError) → ((k : ℕ) (bs : List ℕ) → a ≡ Ok bs → is_some (nth k s) ≡ ltb k (length bs)) → (k : ℕ) (bs : List ℕ) → before (m.value ∷ []) a ≡ Ok bs → is_some (nth k (Ok m ∷ s)) ≡ ltb k (length bs)
one_more m s (Ok cs) ih zero bs e = let z : bs ≡ m.value ∷ cs = cc in rw z (grind (arith, nat_tests))
one_more m s (Ok cs) ih (suc k) bs e = let z : bs ≡ m.value ∷ cs = cc in let i = ih k cs refl in rw z (grind (arith, nat_tests))
one_more m s (Err x) ih k bs e = cc

within : (s : Scan) (k : ℕ) (bs : List ℕ) → said s ≡ Ok bs → is_some (nth k s) ≡ ltb k (length bs)
within [] k bs e = let z : bs ≡ [] = cc in rw z (grind (arith, nat_tests))
within (Err x ∷ s) k bs e = cc
within (Ok m ∷ s) k bs e = one_more m s (said s) (within s) k bs e

pub found : (text : List ℕ) (k : ℕ) (r : Option Mark) → nth k (scan start text) ≡ r → Finds text k (option_map (λ m. m.position) r)
found text k (Some m) e = (record { mark = m; which = e; position = refl; stands = ahead text m start k e }, λ bs h. sym (ap is_some e) ∙ within (scan start text) k bs h)
found text k None e = (tt, λ bs h. sym (ap is_some e) ∙ within (scan start text) k bs h)

itself : {A : Type 0} (r : Option A) → option_map (λ x. x) r ≡ r
itself None = refl
itself (Some x) = refl

-- the item that the bytes of a text have at the place is the byte, if it is one
pub sought : (text : List ℕ) (k : ℕ) (b c : Bytes) (item : Option (Result Mark TextError)) (r : Option Mark) → left b ≡ scan start text → SkipsThenYields (YieldsFirst left) b k item c → r ≡ option_and_then result_ok item
    → record { exact : r ≡ nth k (scan start text); law : Finds text k (option_map (λ m. m.position) r) }
sought text k b c item r all ran e =
    let at : option_map (λ x. x) item ≡ slice_get (scan start text) k = nth_from_yields_List item c k ran (YieldsList-from_first (λ x. x) left (scan start text) all) in
    let there : r ≡ nth k (scan start text) = e ∙ sym (ap (option_and_then result_ok) (sym at ∙ itself item)) in
    record { exact = there; law = found text k r (sym there) }
