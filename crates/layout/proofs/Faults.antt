-- What a reader expected where it refuses: the items of some value in range, of which the first stand there and the next is wrong.
use Rattle.std.proofs.Common.{◌≡◌, ℕ, ◌+◌, ◌-◌, ◌<◌, ◌≤◌, Bool, true, false, cond, ◌⊎◌, List, [], ◌∷◌, ◌++◌, length, take, drop, sym, refl, ap, ◌∙◌, inl, inr, ⊎_elim, append_assoc, append-nil, arith, length-drop, take-append-drop, le-ltb, lt-ltb}
use Rattle.std.proofs.lemmas.List.Concat.{flat_map-append}
use Rattle.std.proofs.str.Laws.{order}
use Rattle.layout.specs.declared.refusal.Fault.{Fault}
use Rattle.layout.specs.declared.refusal.Fault.TheVariants.{Short}
use Rattle.layout.specs.declared.refusal.Refusal.{Refusal}
use Rattle.layout.specs.Reader.{Out, got, bad, bind, refuse, byte, number}
use Rattle.layout.specs.Layout.{Bytes}
use Rattle.layout.specs.Items.{Sort, Item, item, flat, width, Fit, fault_of}
use Rattle.layout.specs.First.{Wrong}
use Rattle.layout.proofs.Exact.{Exact, byte_exact, number_exact}

pub clash : {A P : Type 0} (o : Out A) (v : A) (j : ℕ) (e : Refusal) → o ≡ got v j → o ≡ bad e → P
clash o v j e p q = absurd (let z : ◌≡◌ {A = ℕ} 0 1 = cc in omega arith)

-- ---- items one after the other

-- What is wrong where the items are expected, the bytes r being the last of L: as Wrong has it, where bytes may be left
-- over only if End.
abbrev pub Amiss : Type 0 → ℕ → List Item → List ℕ → Refusal → Type 0
Amiss End L [] r e = End × Wrong [] (L - length r) r e
Amiss End L (x ∷ xs) r e = Wrong (x ∷ xs) (L - length r) r e

-- the items in front stand, and what follows is wrong
pub record Faulty (End : Type 0) (L : ℕ) (xs : List Item) (rest : List ℕ) (e : Refusal) : Type 0 where
  pub front : List Item
  pub back : List Item
  pub r : List ℕ
  pub split : xs ≡ front ++ back
  pub stand : rest ≡ flat front ++ r
  pub wrong : Amiss End L back r e

widen : (End : Type 0) (L : ℕ) (r : List ℕ) (e : Refusal) (xs ys : List Item) → Amiss ⊥ L xs r e → Amiss End L (xs ++ ys) r e
widen End L r e [] ys a = absurd a.0
widen End L r e (x ∷ xs) ys a = a

-- more items may follow
ahead : {End : Type 0} {L : ℕ} {xs : List Item} {rest : List ℕ} {e : Refusal} (ys : List Item) → Faulty ⊥ L xs rest e → Faulty End L (xs ++ ys) rest e
ahead {End} {L} {xs} {rest} {e} ys f =
    record {
      front = f.front;
      back = f.back ++ ys;
      r = f.r;
      split = ap (λ l. l ++ ys) f.split ∙ append_assoc f.front f.back ys;
      stand = f.stand;
      wrong = widen End L f.r e f.back ys f.wrong;
    }

-- other items may stand before
behind : {End : Type 0} {L : ℕ} {xs : List Item} {rest last : List ℕ} {e : Refusal} (ws : List Item) → rest ≡ flat ws ++ last → Faulty End L xs last e → Faulty End L (ws ++ xs) rest e
behind ws h f =
    record {
      front = ws ++ f.front;
      back = f.back;
      r = f.r;
      split = ap (λ l. ws ++ l) f.split ∙ sym (append_assoc ws f.front f.back);
      stand = h ∙ ap (λ l. flat ws ++ l) f.stand ∙ sym (append_assoc (flat ws) (flat f.front) f.r) ∙ ap (λ l. l ++ f.r) (sym (flat_map-append (λ x. x.1) ws f.front));
      wrong = f.wrong;
    }

-- ---- readers

-- Where the outcome o is a refusal, a value in range has the items that were expected. Some value is in range.
pub record Refuses {A C : Type 0} (End : Type 0) (L : ℕ) (rest : List ℕ) (o : Out C) (it : A → List Item) (In : A → Type 0) : Type 0 where
  pub some : (v : A) × In v
  pub faults : (e : Refusal) → o ≡ bad e → (v : A) × In v × Faulty End L (it v) rest e

-- what a reader of bs gives stands there, and what it refuses is wrong
pub record Blames {A : Type 0} (bs : List ℕ) (p : List ℕ → ℕ → Out A) (it : A → List Item) (In : A → Type 0) : Type 0 where
  pub stands : (i : ℕ) (v : A) (j : ℕ) → p bs i ≡ got v j → In v × (drop i bs ≡ flat (it v) ++ drop j bs)
  pub refuses : (i : ℕ) → Refuses ⊥ (length bs) (drop i bs) (p bs i) it In

module _ {A C : Type 0} {End : Type 0} {L : ℕ} {rest : List ℕ} {it : A → List Item} {In : A → Type 0} where
  -- a value is no refusal
  pub ends : (x : C) (j : ℕ) → (v : A) × In v → Refuses End L rest (got x j) it In
  ends x j d = record { some = d; faults = λ e q. clash (got x j) x j e refl q }

  -- the same items as those of another value
  pub likewise : {B : Type 0} {it' : B → List Item} {In' : B → Type 0} {o : Out C} → Refuses End L rest o it In → ((v : A) → In v → (w : B) × In' w × (it v ≡ it' w)) → Refuses End L rest o it' In'
  likewise {B} {it'} {In'} {o} x f =
      record {
        some = let w = f x.some.0 x.some.1 in (w.0, w.1);
        faults = λ e q. let z = x.faults e q in let w = f z.0 z.1 in let g = z.2 in (w.0, w.1, record { front = g.front; back = g.back; r = g.r; split = sym w.2 ∙ g.split; stand = g.stand; wrong = g.wrong });
      }

  -- what is made of a value refuses no more
  pub made : {B : Type 0} (o : Out C) (f : C → B) → Refuses End L rest o it In → Refuses End L rest (bind o (λ v j. got (f v) j)) it In
  made {B} o f x = record { some = x.some; faults = λ e q. x.faults e (back o e q) }
    where
      back : (o : Out C) (e : Refusal) → bind o (λ v j. got (f v) j) ≡ bad e → o ≡ bad e
      back (got v j) e q = clash (got (f v) j) (f v) j e refl q
      back (bad d) e q = let same : d ≡ e = cc in ap bad same

-- one reader after the other: where the first refuses, what would follow is completed
module _ {A B C : Type 0} {End : Type 0} {bs : List ℕ} {p : List ℕ → ℕ → Out A} {it : A → List Item} {In : A → Type 0} {f : A → ℕ → Out C} {it' : A → B → List Item} {In' : A → B → Type 0} where
  pub seq : Blames bs p it In → (i : ℕ) → ((v : A) (j : ℕ) → In v → Refuses End (length bs) (drop j bs) (f v j) (it' v) (In' v)) → Refuses End (length bs) (drop i bs) (bind (p bs i) f) (λ (t : A × B). it t.0 ++ it' t.0 t.1) (λ (t : A × B). In t.0 × In' t.0 t.1)
  seq x i go =
      record {
        some = let v = (x.refuses i).some in let w = (go v.0 i v.1).some in ((v.0, w.0), (v.1, w.1));
        faults = λ e q. from (p bs i) refl e q;
      }
    where
      from : (o : Out A) → p bs i ≡ o → (e : Refusal) → bind o f ≡ bad e → (t : A × B) × (In t.0 × In' t.0 t.1) × Faulty End (length bs) (it t.0 ++ it' t.0 t.1) (drop i bs) e
      from (bad d) r e q =
          let same : d ≡ e = cc in
          let z = (x.refuses i).faults e (r ∙ ap bad same) in
          let w = (go z.0 i z.1).some in
          ((z.0, w.0), (z.1, w.1), ahead (it' z.0 w.0) z.2)
      from (got v j) r e q =
          let s = x.stands i v j r in
          let z = (go v j s.0).faults e q in
          ((v, z.0), (s.0, z.1), behind (it v) s.1 z.2)

-- ---- single items

-- An outcome over w bytes: it refuses if there are fewer, or judges them by Q.
pub record Judged {C : Type 0} (w : ℕ) (Q : Refusal → Type 0) (L : ℕ) (rest : List ℕ) (o : Out C) : Type 0 where
  pub says : (e : Refusal) → o ≡ bad e → ((length rest < w) × (e ≡ record { fault = Short; place = L })) ⊎ ((w ≤ length rest) × Q e)

-- a reader of w bytes, whatever they are
pub record Whole {A : Type 0} (bs : List ℕ) (w : ℕ) (p : List ℕ → ℕ → Out A) : Type 0 where
  pub short : (i : ℕ) → Judged w (λ e. ⊥) (length bs) (drop i bs) (p bs i)
  pub long : (i : ℕ) (v : A) (j : ℕ) → p bs i ≡ got v j → length (drop i bs) ≡ w + length (drop j bs)

module _ {C : Type 0} {w : ℕ} {Q : Refusal → Type 0} {L : ℕ} {rest : List ℕ} where
  pub gave : (v : C) (j : ℕ) → Judged w Q L rest (got v j)
  gave v j = record { says = λ e q. clash (got v j) v j e refl q }

  pub tested : (b : Bool) {o s : Out C} → Judged w Q L rest o → Judged w Q L rest s → Judged w Q L rest (cond b o s)
  tested true x y = x
  tested false x y = y

pub refused : {C : Type 0} {L : ℕ} {rest : List ℕ} (f : Fault) (i : ℕ) → Judged {C = C} 0 (λ e. e ≡ record { fault = f; place = i }) L rest (refuse f i)
refused f i = record { says = λ e q. inr (omega arith, cc) }

module _ {A C : Type 0} {bs : List ℕ} {w : ℕ} {p : List ℕ → ℕ → Out A} {f : A → ℕ → Out C} {Q : Refusal → Type 0} where
  pub then : (u : ℕ) → Whole bs w p → (i : ℕ) → ((v : A) (j : ℕ) → Judged u Q (length bs) (drop j bs) (f v j)) → Judged (w + u) Q (length bs) (drop i bs) (bind (p bs i) f)
  then u x i go = record { says = λ e q. from (p bs i) refl e q }
    where
      from : (o : Out A) → p bs i ≡ o → (e : Refusal) → bind o f ≡ bad e → ((length (drop i bs) < w + u) × (e ≡ record { fault = Short; place = length bs })) ⊎ ((w + u ≤ length (drop i bs)) × Q e)
      from (bad d) r e q = let same : d ≡ e = cc in ⊎_elim (λ s. inl (omega arith, s.1)) (λ s. absurd s.1) ((x.short i).says e (r ∙ ap bad same))
      from (got v j) r e q = let l = x.long i v j r in ⊎_elim (λ s. inl (omega arith, s.1)) (λ s. inr (omega arith, s.1)) ((go v j).says e q)

module _ (bs : List ℕ) (b : Bytes bs) where
  pub byte_whole : Whole bs 1 byte
  byte_whole =
      record {
        short = λ i. record {
          says = λ e q.
              ⊎_elim
              (λ lt. let a = lt-ltb i (length bs) lt in clash (got _ _) _ _ e refl (simp a at q))
              (λ ge. let a = le-ltb i (length bs) ge in let r = simp a at q in inl (simp length-drop (omega arith), cc))
              (order i (length bs));
        };
        long = λ i v j e. omega (arith, ap length (byte_exact.only bs i v j b e).1);
      }

  pub number_whole : Whole bs 4 number
  number_whole =
      record {
        short = λ i. then 3 byte_whole i (λ v1 i1. then 2 byte_whole i1 (λ v2 i2. then 1 byte_whole i2 (λ v3 i3. then 0 byte_whole i3 (λ v4 i4. gave _ i4))));
        long = λ i v j e. omega (arith, ap length (number_exact.only bs i v j b e).1);
      }

  -- a reader of one item, that reads what fits
  pub item_blames : {A : Type 0} {p : List ℕ → ℕ → Out A} {enc : A → List ℕ} {In : A → Type 0} (s : Sort) → 0 < width s → Exact p enc In → ((xs : List ℕ) → Fit s xs → (v : A) × In v × (xs ≡ enc v)) → (v : A) × In v → ((i : ℕ) → Judged (width s) (λ e. e ≡ record { fault = fault_of s; place = i }) (length bs) (drop i bs) (p bs i)) → Blames bs p (item s enc) In
  item_blames {A} {p} {enc} {In} s pos x fits d judged =
      record {
        stands = λ i v j e. let o = x.only bs i v j b e in (o.0, o.1 ∙ ap (λ l. l ++ drop j bs) (sym (append-nil (enc v))));
        refuses = λ i. record {
          some = d;
          faults = λ e q. (d.0, d.1, record { front = []; back = item s enc d.0; r = drop i bs; split = refl; stand = refl; wrong = wrong i e q });
        };
      }
    where
      unfit : (i : ℕ) (e : Refusal) → p bs i ≡ bad e → Fit s (take (width s) (drop i bs)) → ⊥
      unfit i e q h =
          let f = fits _ h in
          let r = x.reads bs i f.0 (drop (width s) (drop i bs)) f.1 (sym (take-append-drop (width s) (drop i bs)) ∙ ap (λ l. l ++ drop (width s) (drop i bs)) f.2) in
          clash (p bs i) f.0 r.0 e r.1 q

      wrong : (i : ℕ) (e : Refusal) → p bs i ≡ bad e → Wrong (item s enc d.0) (length bs - length (drop i bs)) (drop i bs) e
      wrong i e q =
          let l = length-drop i bs in
          ⊎_elim
          (λ h. inl (h.0, h.1 ∙ ap (λ k. record { fault = Short; place = k }) (omega arith)))
          (λ h. inr (h.0, unfit i e q, h.1 ∙ ap (λ k. record { fault = fault_of s; place = k }) (omega arith)))
          ((judged i).says e q)
