-- A reader that agrees with an encoding, part by part.
use Rattle.std.proofs.Common.{◌≡◌, ℕ, zero, suc, ◌+◌, ◌*◌, ◌/◌, ◌%◌, ◌^◌, ◌<◌, ◌≤◌, Bool, true, false, cond, eqb, ltb, leb, List, [], ◌∷◌, ◌++◌, length, get_or, drop, is_some, Some, None, Option, sym, refl, ap, ◌∙◌, subst, ⊎_elim, append_assoc, append-nil, arith, length-drop, rules, ltb-false, ltb-true, le-ltb, lt-ltb, eqb-true, le-leb, leb-true}
use Rattle.std.specs.List.{flat_map, AllByRecursion}
use borrow.Author.Tests.{eqb-false}
use Rattle.std.proofs.lemmas.Nat.{shr-shr}
use Rattle.std.proofs.lemmas.List.{drop_more, drop_all}
use Rattle.std.proofs.str.Laws.{order}
use Rattle.layout.specs.declared.refusal.Fault.{Fault}
use Rattle.layout.specs.declared.refusal.Fault.TheVariants.{Count, Map, Field}
use Rattle.layout.specs.declared.refusal.Refusal.{Refusal}
use Rattle.layout.specs.declared.parts.Condition.{Condition}
use Rattle.layout.specs.declared.parts.Condition.TheVariants.{Equal, AtLeast, LessThan, Absent, HoldsToken}
use Rattle.layout.specs.declared.parts.Guard.{Guard}
use Rattle.layout.specs.declared.parts.Guard.TheVariants.{One, Two, Three, Four}
use Rattle.layout.proofs.Fits.{Wide, set-fits, set_within, condition_within}
use Rattle.layout.specs.Fits.{set_fits, condition_fits}
use Rattle.layout.specs.Reader.{condition, condition_of, fitting, guard, Out, got, bad, bind, byte, number, ranged, field, maybe, map_byte, stands, set, node, edge, many, count, Parts, chart}
use Rattle.layout.specs.Layout.{condition_bytes, guard_bytes, ConditionIn, GuardIn, wide, one, optional, flag, node_bytes, edge_bytes, encode, OptIn, NodeIn, SetIn, EdgeIn, InRange, Bytes, Accepts}

-- ---- how a read goes on

pub on : {A B : Type 0} (o : Out A) (f : A → ℕ → Out B) {x : A} {k : ℕ} {r : Out B} → o ≡ got x k → f x k ≡ r → bind o f ≡ r
on o f e g = ap (λ q. bind q f) e ∙ g

pub yes_on : {A : Type 0} (b : Bool) (o s : Out A) {r : Out A} → b ≡ true → o ≡ r → cond b o s ≡ r
yes_on b o s e g = ap (λ q. cond q o s) e ∙ g

pub no_on : {A : Type 0} (b : Bool) (o s : Out A) {r : Out A} → b ≡ false → s ≡ r → cond b o s ≡ r
no_on b o s e g = ap (λ q. cond q o s) e ∙ g

-- the place that a read comes to, as a variable of what goes on
pub to : {R : Type 0} {P Q : ℕ → Type 0} → ((j : ℕ) × P j × Q j) → ((j : ℕ) → P j → Q j → R) → R
to r go = go r.0 r.1 r.2

-- ---- how a read that succeeded was made

module _ {A B : Type 0} where
  pub from_bind : (o : Out A) (f : A → ℕ → Out B) (v : B) (j : ℕ) → bind o f ≡ got v j → (x : A) × (k : ℕ) × (o ≡ got x k) × (f x k ≡ got v j)
  from_bind (got x k) f v j e = (x, k, refl, e)
  from_bind (bad r) f v j e = absurd (let z : ◌≡◌ {A = ℕ} 0 1 = cc in omega arith)

pub from_cond : {A : Type 0} (b : Bool) (o : Out A) (r : Refusal) (v : A) (j : ℕ) → cond b o (bad r) ≡ got v j → (b ≡ true) × (o ≡ got v j)
from_cond true o r v j e = (refl, e)
from_cond false o r v j e = absurd (let z : ◌≡◌ {A = ℕ} 0 1 = cc in omega arith)

-- the same, with what was read as variables of what goes on: in a long read the parts above would grow without bound
pub via : {A B P : Type 0} {v : B} {j : ℕ} (o : Out A) (f : A → ℕ → Out B) → bind o f ≡ got v j → ((x : A) (k : ℕ) → o ≡ got x k → f x k ≡ got v j → P) → P
via o f e go = let r = from_bind o f _ _ e in go r.0 r.1 r.2 r.3

pub past : {A P : Type 0} {v : A} {j : ℕ} (b : Bool) (o : Out A) (r : Refusal) → cond b o (bad r) ≡ got v j → (b ≡ true → o ≡ got v j → P) → P
past b o r e go = let r = from_cond b o _ _ _ e in go r.0 r.1

pub either : {A P : Type 0} {v : A} {j : ℕ} (b : Bool) (o s : Out A) → cond b o s ≡ got v j → (b ≡ true → o ≡ got v j → P) → (b ≡ false → s ≡ got v j → P) → P
either true o s e f g = f refl e
either false o s e f g = g refl e

-- what holds of the value and the place that a read gave
pub from_got : {A : Type 0} (P : A → ℕ → Type 0) {x y : A} {i j : ℕ} → got x i ≡ got y j → P x i → P y j
from_got P {x} {y} {i} {j} e h = let a : x ≡ y = cc in let b : i ≡ j = cc in subst (P y) b (subst (λ z. P z i) a h)

-- ---- the agreement

pub record Exact {A : Type 0} (p : List ℕ → ℕ → Out A) (enc : A → List ℕ) (In : A → Type 0) : Type 0 where
  -- what is written for a value in range is read as that value
  pub reads : (bs : List ℕ) (i : ℕ) (v : A) (t : List ℕ) → In v → drop i bs ≡ enc v ++ t → (j : ℕ) × (p bs i ≡ got v j) × (drop j bs ≡ t)
  -- what is read is in range, and was written so
  pub only : (bs : List ℕ) (i : ℕ) (v : A) (j : ℕ) → Bytes bs → p bs i ≡ got v j → In v × (drop i bs ≡ enc v ++ drop j bs)

pub exact_in : {A : Type 0} {p : List ℕ → ℕ → Out A} {enc : A → List ℕ} {In Out' : A → Type 0} → Exact p enc In → ((v : A) → In v → Out' v) → ((v : A) → Out' v → In v) → Exact p enc Out'
exact_in x f g =
    record {
      reads = λ bs i v t h e. x.reads bs i v t (g v h) e;
      only = λ bs i v j b e. let r = x.only bs i v j b e in (f v r.0, r.1);
    }

byte_reads : (bs : List ℕ) (i v : ℕ) (t : List ℕ) → drop i bs ≡ v ∷ t → (j : ℕ) × (byte bs i ≡ got v j) × (drop j bs ≡ t)
byte_reads bs i v t e =
    ⊎_elim
    (λ lt. let m = drop_more bs i 0 lt in let same : get_or bs i 0 ≡ v = cc in let rest : drop (i + 1) bs ≡ t = cc in let l = lt-ltb _ _ lt in (i + 1, simp (l, same) refl, rest))
    (λ ge. let m = drop_all i bs ge in absurd (let z : ◌≡◌ {A = ℕ} 0 1 = cc in omega arith))
    (order i (length bs))

byte-only : (bs : List ℕ) (i v j : ℕ) → Bytes bs → byte bs i ≡ got v j → (v < 256) × (drop i bs ≡ v ∷ drop j bs)
byte-only bs i v j b e =
    let r = from_cond (ltb i (length bs)) _ _ v j e in
    let m = drop_more bs i 0 (ltb-true _ _ r.0) in
    let f = r.1 in
    let same : get_or bs i 0 ≡ v = cc in
    let to : i + 1 ≡ j = cc in
    (rw same at (b i), cc)

pub byte_exact : Exact byte one (λ v. v < 256)
byte_exact = record { reads = λ bs i v t h e. byte_reads bs i v t e; only = byte-only }

-- any number that is written so is read so, though it be no byte
any_exact : Exact byte one (λ v. Unit {0})
any_exact = record { reads = λ bs i v t h e. byte_reads bs i v t e; only = λ bs i v j b e. (tt, (byte-only bs i v j b e).1) }

number-reads : (bs : List ℕ) (i v : ℕ) (t : List ℕ) → drop i bs ≡ wide v ++ t → (j : ℕ) × (number bs i ≡ got v j) × (drop j bs ≡ t)
number-reads bs i v t e =
    let r1 = byte_reads bs i _ _ e in
    let r2 = byte_reads bs r1.0 _ _ r1.2 in
    let r3 = byte_reads bs r2.0 _ _ r2.2 in
    let r4 = byte_reads bs r3.0 _ _ r3.2 in
    let sum : v / 16777216 * 16777216 + v / 65536 % 256 * 65536 + v / 256 % 256 * 256 + v % 256 ≡ v = omega arith in
    (r4.0, search rules, r4.2)

number-only : (bs : List ℕ) (i v j : ℕ) → Bytes bs → number bs i ≡ got v j → (v < 2 ^ 32) × (drop i bs ≡ wide v ++ drop j bs)
number-only bs i v j b e =
    let r1 = from_bind (byte bs i) _ v j e in
    let r2 = from_bind (byte bs r1.1) _ v j r1.3 in
    let r3 = from_bind (byte bs r2.1) _ v j r2.3 in
    let r4 = from_bind (byte bs r3.1) _ v j r3.3 in
    let b1 = byte-only bs i r1.0 r1.1 b r1.2 in
    let b2 = byte-only bs r1.1 r2.0 r2.1 b r2.2 in
    let b3 = byte-only bs r2.1 r3.0 r3.1 b r3.2 in
    let b4 = byte-only bs r3.1 r4.0 r4.1 b r4.2 in
    let f = r4.3 in
    let sum : r1.0 * 16777216 + r2.0 * 65536 + r3.0 * 256 + r4.0 ≡ v = cc in
    let to : r4.1 ≡ j = cc in
    let at1 : r1.0 ≡ v / 16777216 = omega arith in
    let at2 : r2.0 ≡ v / 65536 % 256 = omega arith in
    let at3 : r3.0 ≡ v / 256 % 256 = omega arith in
    let at4 : r4.0 ≡ v % 256 = omega arith in
    (omega arith, cc)

pub number_exact : Exact number wide (λ v. v < 2 ^ 32)
number_exact = record { reads = λ bs i v t h e. number-reads bs i v t e; only = number-only }

-- a range
pub ranged_exact : {p : List ℕ → ℕ → Out ℕ} {enc : ℕ → List ℕ} {In : ℕ → Type 0} (f : Fault) (low high : ℕ) → Exact p enc In → ((v : ℕ) → v ≤ high → In v) → Exact (ranged f (λ v. v) p low high) enc (λ v. (low ≤ v) × (v ≤ high))
ranged_exact {p} {enc} {In} f low high x fits =
    record {
      reads = λ bs i v t h e.
          to (x.reads bs i v t (fits v h.1) e) (λ j r d. (j, on (p bs i) _ r (yes_on (leb low v) _ _ (le-leb low v h.0) (yes_on (leb v high) _ _ (le-leb v high h.1) refl)), d));
      only = λ bs i v j b e.
          via (p bs i) _ e (λ w k r e1.
          past (leb low w) _ _ e1 (λ l e2.
          past (leb w high) _ _ e2 (λ u e3.
          from_got (λ v j. ((low ≤ v) × (v ≤ high)) × (drop i bs ≡ enc v ++ drop j bs)) e3 ((leb-true low w l, leb-true w high u), (x.only bs i w k b r).1))));
    }

pub count_exact : (low high : ℕ) → Exact (count low high) one (λ v. (low ≤ v) × (v ≤ high))
count_exact low high = ranged_exact Count low high any_exact (λ v k. tt)

pub map_exact : (low high : ℕ) → high < 256 → Exact (map_byte low high) one (λ v. (low ≤ v) × (v ≤ high))
map_exact low high h = ranged_exact Map low high byte_exact (λ v k. omega arith)

pub upto_exact : {p : List ℕ → ℕ → Out ℕ} {enc : ℕ → List ℕ} {In : ℕ → Type 0} (high : ℕ) → Exact p enc In → ((v : ℕ) → v ≤ high → In v) → Exact (field p 0 high) enc (λ v. v ≤ high)
upto_exact high x fits = exact_in (ranged_exact Field 0 high x fits) (λ v h. h.1) (λ v h. (omega arith, h))

pub activity_exact : Exact (field byte 0 63) one (λ v. v ≤ 63)
activity_exact = upto_exact 63 byte_exact (λ v h. omega arith)

pub event_exact : Exact (field byte 0 31) one (λ v. v ≤ 31)
event_exact = upto_exact 31 byte_exact (λ v h. omega arith)

pub after_exact : Exact (field number 1 100000000) wide (λ v. (1 ≤ v) × (v ≤ 100000000))
after_exact = ranged_exact Field 1 100000000 number_exact (λ v h. omega arith)

pub when_exact : Exact (field number 0 4000000000) wide (λ v. v ≤ 4000000000)
when_exact = upto_exact 4000000000 number_exact (λ v h. omega arith)

pub tally_exact : Exact (field byte 1 4) one (λ v. (1 ≤ v) × (v ≤ 4))
tally_exact = ranged_exact Field 1 4 byte_exact (λ v h. omega arith)

-- a field that stands only where its bit does
pub maybe_exact : {A : Type 0} {p : List ℕ → ℕ → Out A} {enc : A → List ℕ} {In : A → Type 0} (b : Bool) → Exact p enc In → Exact (maybe b p) (optional enc) (λ o. (is_some o ≡ b) × OptIn In o)
maybe_exact {A} {p} {enc} {In} b x = record { reads = there b; only = back b }
  where
    there : (b : Bool) (bs : List ℕ) (i : ℕ) (o : Option A) (t : List ℕ) → (is_some o ≡ b) × OptIn In o → drop i bs ≡ optional enc o ++ t → (j : ℕ) × (maybe b p bs i ≡ got o j) × (drop j bs ≡ t)
    there true bs i (Some v) t h e = let r = x.reads bs i v t h.1 e in (r.0, search rules, r.2)
    there true bs i None t h e = let f = h.0 in absurd (let z : ◌≡◌ {A = ℕ} 0 1 = cc in omega arith)
    there false bs i None t h e = (i, refl, e)
    there false bs i (Some v) t h e = let f = h.0 in absurd (let z : ◌≡◌ {A = ℕ} 0 1 = cc in omega arith)

    back : (b : Bool) (bs : List ℕ) (i : ℕ) (o : Option A) (j : ℕ) → Bytes bs → maybe b p bs i ≡ got o j → ((is_some o ≡ b) × OptIn In o) × (drop i bs ≡ optional enc o ++ drop j bs)
    back true bs i o j k e =
        let r = from_bind (p bs i) _ o j e in
        let m = x.only bs i r.0 r.1 k r.2 in
        from_got (λ o j. ((is_some o ≡ true) × OptIn In o) × (drop i bs ≡ optional enc o ++ drop j bs)) r.3 ((refl, m.0), m.1)
    back false bs i o j k e =
        from_got (λ o j. ((is_some o ≡ false) × OptIn In o) × (drop i bs ≡ optional enc o ++ drop j bs)) e ((refl, tt), refl)

flag-stands : {A : Type 0} (o : Option A) (x : ℕ) → x ≡ flag o → is_some o ≡ eqb x 1
flag-stands None x e = rw e
flag-stands (Some v) x e = rw e

pub stands-flag : {A : Type 0} (o : Option A) (x : ℕ) → x < 2 → is_some o ≡ eqb x 1 → x ≡ flag o
stands-flag None x h e = grind (arith, eqb-false x 1 (sym e))
stands-flag (Some v) x h e = eqb-true x 1 (sym e)

flag_bit : {A : Type 0} (o : Option A) → flag o < 2
flag_bit None = omega arith
flag_bit (Some v) = omega arith

-- a set of nodes
pub set_exact : (n : ℕ) → Exact (set n) (λ s. wide s.bits) (SetIn n)
set_exact n =
    record {
      reads = λ bs i s t h e.
          let r = number-reads bs i s.bits t e in
          let fits = set-fits n s h in
          (r.0, search rules, r.2);
      only = λ bs i s j b e.
          via (number bs i) _ e (λ v k r e1.
          past (set_fits n (record { bits = v })) _ _ e1 (λ fits f.
          from_got (λ s j. SetIn n s × (drop i bs ≡ wide s.bits ++ drop j bs)) f (set_within n _ fits, (number-only bs i v k b r).1)));
    }

pub node_exact : Exact node node_bytes NodeIn
node_exact =
    record {
      reads = λ bs i v t h e.
          let m = flag v.activity in
          let b = flag_bit v.activity in
          let is : is_some v.activity ≡ stands m 0 = flag-stands v.activity (m / 1 % 2) (omega arith) in
          to ((map_exact 0 1 (omega arith)).reads bs i m _ (omega arith, omega arith) e) (λ j r d.
          to ((maybe_exact (stands m 0) activity_exact).reads bs j v.activity t (is, h) d) (λ k p at.
          (k, on (map_byte 0 1 bs i) _ r (on (maybe (stands m 0) (field byte 0 63) bs j) _ p refl), at)));
      only = λ bs i v j b e.
          via (map_byte 0 1 bs i) _ e (λ m k r e1.
          via (maybe (stands m 0) (field byte 0 63) bs k) _ e1 (λ o l q e2.
          let u = (map_exact 0 1 (omega arith)).only bs i m k b r in
          let a = (maybe_exact (stands m 0) activity_exact).only bs k o l b q in
          let x = stands-flag o (m / 1 % 2) (omega arith) a.0.0 in
          let is : m ≡ flag o = omega (arith, u.0.0, u.0.1) in
          from_got (λ v j. NodeIn v × (drop i bs ≡ node_bytes v ++ drop j bs)) e2 (a.0.1, cc (u.1, a.1))));
    }

-- which way a test went
pick : {A P : Type 0} {z : A} (b : Bool) (x y : A) → cond b x y ≡ z → (b ≡ true → x ≡ z → P) → (b ≡ false → y ≡ z → P) → P
pick true x y e f g = f refl e
pick false x y e f g = g refl e

from_some : {A : Type 0} (P : A → Type 0) {x y : A} → Some x ≡ Some y → P x → P y
from_some P {x} {y} e h = let a : x ≡ y = cc in subst P a h

none_some : {A P : Type 0} (x : A) → None ≡ Some x → P
none_some x e = absurd (let z : ◌≡◌ {A = ℕ} 0 1 = cc in omega arith)

-- a condition is written as the fields that it was made of
fields-only : (kind subject constant : ℕ) (c : Condition) → condition_of kind subject constant ≡ Some c → constant < 2 ^ 32 → Wide c × (kind ∷ subject ∷ wide constant ≡ condition_bytes c)
fields-only kind subject constant c e w =
    let G : Condition → Type 0 = λ c. Wide c × (kind ∷ subject ∷ wide constant ≡ condition_bytes c) in
    pick (eqb kind 0) _ _ e (λ b f. let is = eqb-true kind 0 b in from_some G {x = Equal subject constant} f (w, cc)) (λ n0 e0.
    pick (eqb kind 1) _ _ e0 (λ b f. let is = eqb-true kind 1 b in from_some G {x = AtLeast subject constant} f (w, cc)) (λ n1 e1.
    pick (eqb kind 2) _ _ e1 (λ b f. let is = eqb-true kind 2 b in from_some G {x = LessThan subject constant} f (w, cc)) (λ n2 e2.
    pick (eqb kind 3) _ _ e2 (λ b f. pick (eqb constant 0) _ _ f (λ z g. let is = eqb-true kind 3 b in let no = eqb-true constant 0 z in from_some G {x = Absent subject} g (tt, cc)) (λ z. none_some c)) (λ n3 e3.
    pick (eqb kind 4) _ _ e3 (λ b f. pick (eqb constant 0) _ _ f (λ z g. let is = eqb-true kind 4 b in let no = eqb-true constant 0 z in from_some G {x = HoldsToken subject} g (tt, cc)) (λ z. none_some c)) (λ n4. none_some c)))))

pub condition_exact : (n : ℕ) → Exact (condition n) condition_bytes (ConditionIn n)
condition_exact n = record { reads = there; only = back }
  where
    there : (bs : List ℕ) (i : ℕ) (v : Condition) (t : List ℕ) → ConditionIn n v → drop i bs ≡ condition_bytes v ++ t → (j : ℕ) × (condition n bs i ≡ got v j) × (drop j bs ≡ t)
    there bs i (Equal a c) t h e = let r = byte_reads bs i _ _ e in let s = byte_reads bs r.0 _ _ r.2 in let w = number-reads bs s.0 c t s.2 in let l = le-leb a 15 h.0 in (w.0, search rules, w.2)
    there bs i (AtLeast a c) t h e = let r = byte_reads bs i _ _ e in let s = byte_reads bs r.0 _ _ r.2 in let w = number-reads bs s.0 c t s.2 in let l = le-leb a 15 h.0 in (w.0, search rules, w.2)
    there bs i (LessThan a c) t h e = let r = byte_reads bs i _ _ e in let s = byte_reads bs r.0 _ _ r.2 in let w = number-reads bs s.0 c t s.2 in let l = le-leb a 15 h.0 in (w.0, search rules, w.2)
    there bs i (Absent a) t h e = let r = byte_reads bs i _ _ e in let s = byte_reads bs r.0 _ _ r.2 in let w = number-reads bs s.0 0 t s.2 in let l = le-leb a 15 h in (w.0, search rules, w.2)
    there bs i (HoldsToken k) t h e = let r = byte_reads bs i _ _ e in let s = byte_reads bs r.0 _ _ r.2 in let w = number-reads bs s.0 0 t s.2 in let l = lt-ltb k n h in (w.0, search rules, w.2)

    judged : (o : Option Condition) (i l : ℕ) (v : Condition) (j : ℕ) → fitting n o i l ≡ got v j → (o ≡ Some v) × (condition_fits n v ≡ true) × (l ≡ j)
    judged (Some c) i l v j e = past (condition_fits n c) _ _ e (λ f g. from_got (λ w k. (Some c ≡ Some w) × (condition_fits n w ≡ true) × (l ≡ k)) g (refl, f, refl))
    judged None i l v j e = absurd (let z : ◌≡◌ {A = ℕ} 0 1 = cc in omega arith)

    back : (bs : List ℕ) (i : ℕ) (v : Condition) (j : ℕ) → Bytes bs → condition n bs i ≡ got v j → ConditionIn n v × (drop i bs ≡ condition_bytes v ++ drop j bs)
    back bs i v j b e =
        via (byte bs i) _ e (λ kind i1 r1 e1.
        via (byte bs i1) _ e1 (λ subject i2 r2 e2.
        via (number bs i2) _ e2 (λ constant i3 r3 e3.
        let u1 = byte-only bs i kind i1 b r1 in
        let u2 = byte-only bs i1 subject i2 b r2 in
        let u3 = number-only bs i2 constant i3 b r3 in
        let f = judged (condition_of kind subject constant) i i3 v j e3 in
        let is = fields-only kind subject constant v f.0 u3.0 in
        (condition_within n v f.1 is.0, u1.1 ∙ cc (u2.1, u3.1, is.1, f.2)))))

pub guard_exact : (n : ℕ) → Exact (guard n) guard_bytes (GuardIn n)
guard_exact n = record { reads = there; only = back }
  where
    x : Exact (condition n) condition_bytes (ConditionIn n)
    x = condition_exact n

    there : (bs : List ℕ) (i : ℕ) (v : Guard) (t : List ℕ) → GuardIn n v → drop i bs ≡ guard_bytes v ++ t → (j : ℕ) × (guard n bs i ≡ got v j) × (drop j bs ≡ t)
    there bs i (One a) t h e =
        let k = tally_exact.reads bs i 1 _ (omega arith, omega arith) (e ∙ simp append-nil) in
        let r1 = x.reads bs k.0 a t h.0 k.2 in
        (r1.0, search rules, r1.2)
    there bs i (Two a b) t h e =
        let k = tally_exact.reads bs i 2 (condition_bytes a ++ (condition_bytes b ++ t)) (omega arith, omega arith) (e ∙ simp (append_assoc, append-nil)) in
        let r1 = x.reads bs k.0 a _ h.0 k.2 in
        let r2 = x.reads bs r1.0 b _ h.1.0 r1.2 in
        (r2.0, search rules, r2.2)
    there bs i (Three a b c) t h e =
        let k = tally_exact.reads bs i 3 (condition_bytes a ++ (condition_bytes b ++ (condition_bytes c ++ t))) (omega arith, omega arith) (e ∙ simp (append_assoc, append-nil)) in
        let r1 = x.reads bs k.0 a _ h.0 k.2 in
        let r2 = x.reads bs r1.0 b _ h.1.0 r1.2 in
        let r3 = x.reads bs r2.0 c _ h.1.1.0 r2.2 in
        (r3.0, search rules, r3.2)
    there bs i (Four a b c d) t h e =
        let k = tally_exact.reads bs i 4 (condition_bytes a ++ (condition_bytes b ++ (condition_bytes c ++ (condition_bytes d ++ t)))) (omega arith, omega arith) (e ∙ simp (append_assoc, append-nil)) in
        let r1 = x.reads bs k.0 a _ h.0 k.2 in
        let r2 = x.reads bs r1.0 b _ h.1.0 r1.2 in
        let r3 = x.reads bs r2.0 c _ h.1.1.0 r2.2 in
        let r4 = x.reads bs r3.0 d _ h.1.1.1.0 r3.2 in
        (r4.0, search rules, r4.2)

    back : (bs : List ℕ) (i : ℕ) (v : Guard) (j : ℕ) → Bytes bs → guard n bs i ≡ got v j → GuardIn n v × (drop i bs ≡ guard_bytes v ++ drop j bs)
    back bs i v j q e =
        let G : Guard → ℕ → Type 0 = λ v j. GuardIn n v × (drop i bs ≡ guard_bytes v ++ drop j bs) in
        via (field byte 1 4 bs i) _ e (λ k i0 r0 e0.
        via (condition n bs i0) _ e0 (λ a i1 r1 e1.
        let u0 = tally_exact.only bs i k i0 q r0 in
        let u1 = x.only bs i0 a i1 q r1 in
        either (eqb k 1) _ _ e1
        (λ w f. let is = eqb-true k 1 w in from_got G {x = One a} {i = i1} f ((u1.0, tt), simp append-nil (cc)))
        (λ nf1 f1. via (condition n bs i1) _ f1 (λ b i2 r2 e2.
        let u2 = x.only bs i1 b i2 q r2 in
        either (eqb k 2) _ _ e2
        (λ w f. let is = eqb-true k 2 w in from_got G {x = Two a b} {i = i2} f ((u1.0, (u2.0, tt)), simp (append_assoc, append-nil) (cc)))
        (λ nf2 f2. via (condition n bs i2) _ f2 (λ c i3 r3 e3.
        let u3 = x.only bs i2 c i3 q r3 in
        either (eqb k 3) _ _ e3
        (λ w f. let is = eqb-true k 3 w in from_got G {x = Three a b c} {i = i3} f ((u1.0, (u2.0, (u3.0, tt))), simp (append_assoc, append-nil) (cc)))
        (λ nf3 f3. via (condition n bs i3) _ f3 (λ d i4 r4 f.
        let u4 = x.only bs i3 d i4 q r4 in
        let n1 = eqb-false k 1 nf1 in
        let n2 = eqb-false k 2 nf2 in
        let n3 = eqb-false k 3 nf3 in
        let is : k ≡ 4 = omega (arith, u0.0.0, u0.0.1) in
        from_got G {x = Four a b c d} {i = i4} f ((u1.0, (u2.0, (u3.0, (u4.0, tt)))), simp (append_assoc, append-nil) (cc))))))))))

-- a map below 128 by its bits
map_bits : (m : ℕ) → m ≤ 127 → m ≡ m / 1 % 2 + 2 * (m / 2 % 2) + 4 * (m / 4 % 2) + 8 * (m / 8 % 2) + 16 * (m / 16 % 2) + 32 * (m / 32 % 2) + 64 * (m / 64 % 2)
map_bits m h =
    let h1 : m / 2 / 2 ≡ m / 4 = shr-shr m 1 1 in
    let h2 : m / 4 / 2 ≡ m / 8 = shr-shr m 2 1 in
    let h3 : m / 8 / 2 ≡ m / 16 = shr-shr m 3 1 in
    let h4 : m / 16 / 2 ≡ m / 32 = shr-shr m 4 1 in
    let h5 : m / 32 / 2 ≡ m / 64 = shr-shr m 5 1 in
    omega arith

-- a map is told by the fields that stand
pub map_is : (m : ℕ) (trigger after when : Option ℕ) (guarded : Option Guard) (send : Option ℕ) → (96 ≤ m) × (m ≤ 127) → (is_some trigger ≡ stands m 0) × (is_some after ≡ stands m 1) × (is_some when ≡ stands m 2) × (is_some guarded ≡ stands m 3) × (is_some send ≡ stands m 4) → m ≡ flag trigger + 2 * flag after + 4 * flag when + 8 * flag guarded + 16 * flag send + 32 + 64
map_is m trigger after when guarded send c f =
    let x0 = stands-flag trigger (m / 1 % 2) (omega arith) f.0 in
    let x1 = stands-flag after (m / 2 % 2) (omega arith) f.1 in
    let x2 = stands-flag when (m / 4 % 2) (omega arith) f.2 in
    let x3 = stands-flag guarded (m / 8 % 2) (omega arith) f.3 in
    let x4 = stands-flag send (m / 16 % 2) (omega arith) f.4 in
    omega (arith, map_bits m c.1, c.0)

pub edge_exact : (n : ℕ) → Exact (edge n) edge_bytes (EdgeIn n)
edge_exact n =
    record {
      reads = λ bs i v t h e.
          let m = flag v.trigger + 2 * flag v.after + 4 * flag v.when + 8 * flag v.guard + 16 * flag v.send + 32 + 64 in
          let b0 = flag_bit v.trigger in
          let b1 = flag_bit v.after in
          let b2 = flag_bit v.when in
          let b3 = flag_bit v.guard in
          let b4 = flag_bit v.send in
          let r = (map_exact 96 127 (omega arith)).reads bs i m (optional one v.trigger ++ (optional wide v.after ++ (optional wide v.when ++ (optional guard_bytes v.guard ++ (optional one v.send ++ (wide v.sources.bits ++ (wide v.targets.bits ++ t))))))) (omega arith, omega arith) (e ∙ simp append_assoc) in
          let is0 : is_some v.trigger ≡ stands m 0 = flag-stands v.trigger (m / 1 % 2) (omega arith) in
          let is1 : is_some v.after ≡ stands m 1 = flag-stands v.after (m / 2 % 2) (omega arith) in
          let is2 : is_some v.when ≡ stands m 2 = flag-stands v.when (m / 4 % 2) (omega arith) in
          let is3 : is_some v.guard ≡ stands m 3 = flag-stands v.guard (m / 8 % 2) (omega arith) in
          let is4 : is_some v.send ≡ stands m 4 = flag-stands v.send (m / 16 % 2) (omega arith) in
          to r (λ i1 p d.
          to ((maybe_exact (stands m 0) event_exact).reads bs i1 v.trigger _ (is0, h.trigger) d) (λ j0 p0 at0.
          to ((maybe_exact (stands m 1) after_exact).reads bs j0 v.after _ (is1, h.after) at0) (λ j1 p1 at1.
          to ((maybe_exact (stands m 2) when_exact).reads bs j1 v.when _ (is2, h.when) at1) (λ j2 p2 at2.
          to ((maybe_exact (stands m 3) (guard_exact n)).reads bs j2 v.guard _ (is3, h.guard) at2) (λ j3 p3 at3.
          to ((maybe_exact (stands m 4) event_exact).reads bs j3 v.send _ (is4, h.send) at3) (λ j4 p4 at4.
          to ((set_exact n).reads bs j4 v.sources _ h.sources at4) (λ j5 p5 at5.
          to ((set_exact n).reads bs j5 v.targets _ h.targets at5) (λ j6 p6 at6. (
            j6,
            on (map_byte 96 127 bs i) _ p
                (on (maybe (stands m 0) (field byte 0 31) bs i1) _ p0
                (on (maybe (stands m 1) (field number 1 100000000) bs j0) _ p1
                (on (maybe (stands m 2) (field number 0 4000000000) bs j1) _ p2
                (on (maybe (stands m 3) (guard n) bs j2) _ p3
                (on (maybe (stands m 4) (field byte 0 31) bs j3) _ p4
                (on (set n bs j4) _ p5
                (on (set n bs j5) _ p6 refl))))))),
            at6,
          )))))))));
      only = λ bs i v j b e.
          via (map_byte 96 127 bs i) _ e (λ m i1 r e1.
          via (maybe (stands m 0) (field byte 0 31) bs i1) _ e1 (λ trigger j0 r0 g0.
          via (maybe (stands m 1) (field number 1 100000000) bs j0) _ g0 (λ after j1 r1 g1.
          via (maybe (stands m 2) (field number 0 4000000000) bs j1) _ g1 (λ when j2 r2 g2.
          via (maybe (stands m 3) (guard n) bs j2) _ g2 (λ guarded j3 r3 g3.
          via (maybe (stands m 4) (field byte 0 31) bs j3) _ g3 (λ send j4 r4 g4.
          via (set n bs j4) _ g4 (λ sources j5 r5 g5.
          via (set n bs j5) _ g5 (λ targets j6 r6 g6.
          let u = (map_exact 96 127 (omega arith)).only bs i m i1 b r in
          let f0 = (maybe_exact (stands m 0) event_exact).only bs i1 trigger j0 b r0 in
          let f1 = (maybe_exact (stands m 1) after_exact).only bs j0 after j1 b r1 in
          let f2 = (maybe_exact (stands m 2) when_exact).only bs j1 when j2 b r2 in
          let f3 = (maybe_exact (stands m 3) (guard_exact n)).only bs j2 guarded j3 b r3 in
          let f4 = (maybe_exact (stands m 4) event_exact).only bs j3 send j4 b r4 in
          let f5 = (set_exact n).only bs j4 sources j5 b r5 in
          let f6 = (set_exact n).only bs j5 targets j6 b r6 in
          let is = map_is m trigger after when guarded send u.0 (f0.0.0, f1.0.0, f2.0.0, f3.0.0, f4.0.0) in
          from_got (λ v j. EdgeIn n v × (drop i bs ≡ edge_bytes v ++ drop j bs)) g6
          (record { trigger = f0.0.1; after = f1.0.1; when = f2.0.1; guard = f3.0.1; send = f4.0.1; sources = f5.0; targets = f6.0 }, simp append_assoc (cc))))))))));
    }

-- ---- records one after the other

module _ {A : Type 0} {p : List ℕ → ℕ → Out A} {enc : A → List ℕ} {In : A → Type 0} (x : Exact p enc In) where
  pub many_reads : (bs : List ℕ) (i : ℕ) (vs : List A) (t : List ℕ) → AllByRecursion In vs → drop i bs ≡ flat_map enc vs ++ t → (j : ℕ) × (many p (length vs) bs i ≡ got vs j) × (drop j bs ≡ t)
  many_reads bs i [] t h e = (i, refl, e)
  many_reads bs i (v ∷ vs) t h e =
      to (x.reads bs i v (flat_map enc vs ++ t) h.0 (e ∙ append_assoc (enc v) (flat_map enc vs) t)) (λ j p1 at1.
      to (many_reads bs j vs t h.1 at1) (λ k p2 at2.
      (k, on (p bs i) _ p1 (on (many p (length vs) bs j) _ p2 refl), at2)))

  pub many_only : (n : ℕ) (bs : List ℕ) (i : ℕ) (vs : List A) (j : ℕ) → Bytes bs → many p n bs i ≡ got vs j → (length vs ≡ n) × AllByRecursion In vs × (drop i bs ≡ flat_map enc vs ++ drop j bs)
  many_only zero bs i vs j b e = from_got (λ vs j. (length vs ≡ 0) × AllByRecursion In vs × (drop i bs ≡ flat_map enc vs ++ drop j bs)) e (refl, tt, refl)
  many_only (suc n) bs i vs j b e =
      via (p bs i) _ e (λ y k r e1.
      via (many p n bs k) _ e1 (λ ys l r2 e2.
      let f = x.only bs i y k b r in
      let g = many_only n bs k ys l b r2 in
      from_got (λ vs j. (length vs ≡ suc n) × AllByRecursion In vs × (drop i bs ≡ flat_map enc vs ++ drop j bs)) e2 (ap suc g.0, (f.0, g.1), simp append_assoc (cc (f.1, g.2)))))

-- ---- a whole chart

chart-only : (bs : List ℕ) (c : Parts) (j : ℕ) → Bytes bs → chart bs 0 ≡ got c j → InRange c × (bs ≡ encode c)
chart-only bs c j b e =
    via (count 2 32 bs 0) _ e (λ n j0 r0 e0.
    via (count 1 64 bs j0) _ e0 (λ m j1 r1 e1.
    via (many node n bs j1) _ e1 (λ ns j2 r2 e2.
    via (many (edge n) m bs j2) _ e2 (λ es j3 r3 e3.
    either (ltb j3 (length bs)) _ _ e3
    (λ w f. absurd (let z : ◌≡◌ {A = ℕ} 0 1 = cc in omega arith))
    (λ w f.
    let f0 = (count_exact 2 32).only bs 0 n j0 b r0 in
    let f1 = (count_exact 1 64).only bs j0 m j1 b r1 in
    let f2 = many_only node_exact n bs j1 ns j2 b r2 in
    let f3 = many_only (edge_exact n) m bs j2 es j3 b r3 in
    let none : drop j3 bs ≡ [] = drop_all j3 bs (ltb-false _ _ w) in
    let whole : bs ≡ n ∷ m ∷ (flat_map node_bytes ns ++ flat_map edge_bytes es) = f0.1 ∙ ap (λ l. n ∷ l) (f1.1 ∙ ap (λ l. m ∷ l) (f2.2 ∙ ap (λ l. flat_map node_bytes ns ++ l) (f3.2 ∙ ap (λ l. flat_map edge_bytes es ++ l) none ∙ append-nil (flat_map edge_bytes es)))) in
    from_got (λ c j. InRange c × (bs ≡ encode c)) f (
      record { nodes_low = omega (arith, f0.0.0, f2.0); nodes_high = omega (arith, f0.0.1, f2.0); edges_low = omega (arith, f1.0.0, f3.0); edges_high = omega (arith, f1.0.1, f3.0); nodes = f2.1; edges = subst (λ k. AllByRecursion (EdgeIn k) es) (sym f2.0) f3.1 },
      cc (whole, f2.0, f3.0),
    ))))))

spent : (j : ℕ) (bs : List ℕ) → drop j bs ≡ [] → ltb j (length bs) ≡ false
spent j bs e = let l = ap length e in let d = length-drop j bs in le-ltb j (length bs) (omega arith)

pub chart-reads : (bs : List ℕ) (c : Parts) → InRange c → bs ≡ encode c → chart bs 0 ≡ got c (length bs)
chart-reads bs c h e =
    let n = length c.nodes in
    let m = length c.edges in
    to ((count_exact 2 32).reads bs 0 n (m ∷ (flat_map node_bytes c.nodes ++ (flat_map edge_bytes c.edges ++ []))) (h.nodes_low, h.nodes_high) (e ∙ simp append-nil)) (λ j0 p0 at0.
    to ((count_exact 1 64).reads bs j0 m (flat_map node_bytes c.nodes ++ (flat_map edge_bytes c.edges ++ [])) (h.edges_low, h.edges_high) at0) (λ j1 p1 at1.
    to (many_reads node_exact bs j1 c.nodes (flat_map edge_bytes c.edges ++ []) h.nodes at1) (λ j2 p2 at2.
    to (many_reads (edge_exact n) bs j2 c.edges [] h.edges at2) (λ j3 p3 at3.
    on (count 2 32 bs 0) _ p0 (on (count 1 64 bs j0) _ p1 (on (many node n bs j1) _ p2 (on (many (edge n) m bs j2) _ p3 (no_on (ltb j3 (length bs)) _ _ (spent j3 bs at3) refl))))))))

pub accepts : Accepts
accepts bs b c = (chart-only bs c (length bs) b, λ h. chart-reads bs c h.0 h.1)
