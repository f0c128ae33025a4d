-- The tests of a number of nodes decide what is in range.
use Rattle.std.proofs.Common.{◌≡◌, ℕ, ◌*◌, ◌/◌, ◌^◌, ◌<◌, true, one-mul, zero-mul, arith, ltb-true, lt-ltb, eq-eqb, eqb-true, le-leb, leb-true}
use lib.Count.{ones}
use Rattle.std.proofs.lemmas.Bool.{and_from, and_parts}
use Rattle.std.proofs.lemmas.Nat.{div_below, mod_below, div-add-mod', pow_pos}
use Rattle.layout.specs.declared.parts.NodeSet.{NodeSet}
use Rattle.layout.specs.declared.parts.Condition.{Condition}
use Rattle.layout.specs.declared.parts.Condition.TheVariants.{Equal, AtLeast, LessThan, Absent, HoldsToken}
use Rattle.layout.specs.Fits.{set_fits, condition_fits}
use Rattle.layout.specs.Layout.{SetIn, ConditionIn}

div_zero : (v m : ℕ) → v < m → v / m ≡ 0
div_zero v m h = let p : 0 < m = omega arith in let l = div_below v m 1 p (simp one-mul h) in omega arith

zero-div : (v m : ℕ) → 0 < m → v / m ≡ 0 → v < m
zero-div v m p e = let d = div-add-mod' v m in let l = mod_below v m p in let z : v / m * m ≡ 0 = rw (e, zero-mul) in omega arith

pub set-fits : (n : ℕ) (s : NodeSet) → SetIn n s → set_fits n s ≡ true
set-fits n s h =
    and_from _ _ (lt-ltb 0 (ones s.bits) h.some) (and_from _ _ (le-leb (ones s.bits) 4 h.few) (eq-eqb (s.bits / 2 ^ n) 0 (div_zero s.bits (2 ^ n) h.below)))

pub set_within : (n : ℕ) (s : NodeSet) → set_fits n s ≡ true → SetIn n s
set_within n s e =
    let p = and_parts _ _ e in
    let q = and_parts _ _ p.1 in
    record { some = ltb-true _ _ p.0; few = leb-true _ _ q.0; below = zero-div s.bits (2 ^ n) (pow_pos n) (eqb-true _ _ q.1) }

pub condition-fits : (n : ℕ) (c : Condition) → ConditionIn n c → condition_fits n c ≡ true
condition-fits n (Equal a c) h = le-leb a 15 h.0
condition-fits n (AtLeast a c) h = le-leb a 15 h.0
condition-fits n (LessThan a c) h = le-leb a 15 h.0
condition-fits n (Absent a) h = le-leb a 15 h
condition-fits n (HoldsToken k) h = lt-ltb k n h

-- a constant has four bytes
abbrev pub Wide : Condition → Type 0
Wide (Equal a c) = c < 2 ^ 32
Wide (AtLeast a c) = c < 2 ^ 32
Wide (LessThan a c) = c < 2 ^ 32
Wide (Absent a) = Unit {0}
Wide (HoldsToken k) = Unit {0}

pub condition_within : (n : ℕ) (c : Condition) → condition_fits n c ≡ true → Wide c → ConditionIn n c
condition_within n (Equal a c) e w = (leb-true a 15 e, w)
condition_within n (AtLeast a c) e w = (leb-true a 15 e, w)
condition_within n (LessThan a c) e w = (leb-true a 15 e, w)
condition_within n (Absent a) e w = leb-true a 15 e
condition_within n (HoldsToken k) e w = ltb-true k n e
