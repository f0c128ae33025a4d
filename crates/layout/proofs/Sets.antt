-- Membership in a set that is kept as 32 bits.
use Rattle.std.proofs.Common.{◌≡◌, ℕ, ◌*◌, ◌/◌, ◌%◌, ◌^◌, ◌<◌, ◌≤◌, false, eqb, ap, one-mul, arith, pow_mono}
use Rattle.std.proofs.lemmas.Nat.{div_below, pow_pos}
use Rattle.layout.specs.Sets.{member}

-- no bit stands from bit 32 on
pub none_left : (bits k : ℕ) → bits < 2 ^ 32 → 32 ≤ k → bits / 2 ^ k ≡ 0
none_left bits k fits high =
    let wide : 2 ^ 32 ≤ 2 ^ k = pow_mono high in
    let low = div_below bits (2 ^ k) 1 (pow_pos k) (let h : bits < 1 * 2 ^ k = rw one-mul (omega arith) in h) in
    omega arith

-- no set has a node above 31
pub none_above : (bits k : ℕ) → bits < 2 ^ 32 → 32 ≤ k → member bits k ≡ false
none_above bits k fits high = ap (λ v. eqb (v % 2) 1) (none_left bits k fits high)
