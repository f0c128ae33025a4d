-- The bits of a map. Assumes nothing.
use Rattle.std.specs.Prelude.{◌≡◌, ℕ, zero, suc, ◌+◌, ◌*◌, ◌/◌, ◌%◌, ◌^◌, ◌<◌, ◌≤◌, cond, List, [], ◌∷◌, length, map, take, None, Option, is_some, count_ones, slice_index_or, slice_set}
use Rattle.std.proofs.Common.{sym, ap, ◌∙◌, arith, pow-suc, add-one}
use Rattle.std.proofs.Math.ListN.{get_or-map}
use Rattle.std.proofs.Math.Nat.{zero-mod, mod-one}
use Rattle.std.proofs.lemmas.Nat.{mod-pow-add}
use Rattle.std.proofs.lemmas.List.{length-map}
use Rattle.std.proofs.lemmas.Simd.{mask_l-lt, bit_mask_l, ones-mask_l_cons}
use Rattle.facts.specs.Packing.{flag, map_of}

module _ {A : Type 0} where
  pub flag_le : (f : Option A) → flag f ≤ 1
  flag_le f = grind arith

  pub low_bit : (f : Option A) (m : ℕ) → ((m * 2 + flag f) % 2 ≡ flag f) × ((m * 2 + flag f) / 2 ≡ m)
  low_bit f m = let h = flag_le f in (omega arith, omega arith)

  -- bit a stands where field a is there
  pub bit_of : (fs : List (Option A)) (a : ℕ) → map_of fs / 2 ^ a % 2 ≡ flag (slice_index_or fs a None)
  bit_of fs a = bit_mask_l (map is_some fs) a ∙ ap (λ b. cond b 1 0) (get_or-map is_some fs a None)

  -- the bits below bit a are the map of the fields below a
  pub map_take : (fs : List (Option A)) (a : ℕ) → map_of fs % 2 ^ a ≡ map_of (take a fs)
  map_take fs zero = mod-one _
  map_take [] (suc a) = zero-mod _
  map_take (f ∷ fs) (suc a) =
      let m = map_of (f ∷ fs) in
      let low = low_bit f (map_of fs) in
      let parts : m % 2 ^ suc a ≡ m / 2 % 2 ^ a * 2 + m % 2 = ap (λ k. m % 2 ^ k) (sym (add-one a)) ∙ mod-pow-add m a 1 in
      grind (arith, parts, low, map_take fs a)

  pub map_below : (fs : List (Option A)) → map_of fs < 2 ^ length fs
  map_below fs = simp length-map at (mask_l-lt (map is_some fs))

  -- setting field a changes bit a alone
  pub map_set : (fs : List (Option A)) (a : ℕ) (v : Option A) → a < length fs
      → map_of (slice_set fs a v) + flag (slice_index_or fs a None) * 2 ^ a ≡ map_of fs + flag v * 2 ^ a
  map_set [] a v h = absurd (omega arith)
  map_set (f ∷ fs) zero v h = omega arith
  map_set (f ∷ fs) (suc a) v h =
      let twice : (g : ℕ) → g * 2 ^ suc a ≡ 2 * (g * 2 ^ a) = λ g. rw (pow-suc 2 a) (omega arith) in
      omega (arith, twice (flag (slice_index_or fs a None)), twice (flag v), map_set fs a v (omega arith))

  -- as many bits stand as fields are there
  pub ones_map : (f : Option A) (fs : List (Option A)) → count_ones (map_of (f ∷ fs)) ≡ flag f + count_ones (map_of fs)
  ones_map f fs = ones-mask_l_cons (is_some f) (map is_some fs)
