-- One field of a record, looked at and set. Assumes nothing.
use Rattle.std.proofs.Common.{◌≡◌, ℕ, suc, ◌+◌, ◌-◌, ◌/◌, ◌%◌, ◌^◌, ◌<◌, ◌≤◌, Bool, true, false, cond, eqb, is_some, List, [], ◌++◌, length, get_or, take, drop, set, Some, None, Option, sym, refl, ap, ◌∙◌, subst, arith, lt-ltb}
use Rattle.std.specs.Int.Count.{ones}
use Rattle.std.proofs.Math.Seq.{take-append-add}
use Rattle.std.proofs.lemmas.Nat.{ones-le, mod_below, pow_pos}
use Rattle.std.proofs.lemmas.List.{append_assoc, length-drop, drop_at, take_at, length-set, set-get_or, drop-drop, take-append-drop}
use Rattle.facts.specs.Facts.{Facts, small}
use Rattle.facts.specs.Packing.{map_of, optional, packed}
use Rattle.facts.specs.Record.{two, two_of, four, four_of, encode, decode, Held, place_of}
use Rattle.facts.specs.Maps.{bit_of, map_take, map_below, map_set}
use Rattle.facts.specs.Packings.{packed-set}
use Rattle.facts.specs.Records.{four-reads, decode-encode, decode-facts, map-decode, length-packed, encode-decode}
use Rattle.facts.proofs.Sets.{facts-set}

-- no field begins so late that it does not fit
pub place_low : (m a : ℕ) → a < 16 → place_of m a ≤ 62
place_low m a h = omega (arith, ones-le a (m % 2 ^ a) (mod_below m (2 ^ a) (pow_pos a)))

-- ---- the map

-- the map once field a was set, where it was there, and where it was not
map_kept : (fs : List (Option ℕ)) (a n : ℕ) → a < length fs → is_some (get_or fs a None) ≡ true → map_of fs ≡ map_of (set fs a (Some n))
map_kept fs a n h f = omega (arith, rw f at (map_set fs a (Some n) h))

map_gained : (fs : List (Option ℕ)) (a n : ℕ) → a < length fs → is_some (get_or fs a None) ≡ false → map_of fs + 2 ^ a ≡ map_of (set fs a (Some n))
map_gained fs a n h f = omega (arith, rw f at (map_set fs a (Some n) h))

map_lost : (fs : List (Option ℕ)) (a : ℕ) → a < length fs → is_some (get_or fs a None) ≡ true → map_of (set fs a None) + 2 ^ a ≡ map_of fs
map_lost fs a h f = omega (arith, rw f at (map_set fs a None h))

-- a test of a bit
set_bit : (t : Bool) → eqb (cond t 1 0) 1 ≡ t
set_bit t = grind arith

-- ---- the fields

laid : (fs : List (Option ℕ)) (a : ℕ) (v : Option ℕ) (rest : List ℕ) → a < length fs
    → encode (set fs a v) ++ rest ≡ two (map_of (set fs a v)) ++ (packed four (take a fs) ++ (optional four v ++ (packed four (drop (suc a) fs) ++ rest)))
unfolding encode
laid fs a v rest h = rw (packed-set four fs a v h) (simp append_assoc)

four_there : (v : Option ℕ) → is_some v ≡ true → length (optional four v) ≡ 4
four_there None t = cc
four_there (Some n) t = refl

none_there : (v : Option ℕ) → is_some v ≡ false → optional four v ≡ []
none_there None t = refl
none_there (Some n) t = cc

found : (v : Option ℕ) (rest : List ℕ) → is_some v ≡ true → small v ≡ true → Some (four_of (optional four v ++ rest)) ≡ v
found None rest t s = cc
found (Some n) rest t s = ap Some (four-reads n rest s)

take_past : (n : ℕ) (xs ys : List ℕ) → length xs ≤ n → take n (xs ++ ys) ≡ xs ++ take (n - length xs) ys
take_past n xs ys h = ap (λ k. take k (xs ++ ys)) (omega arith) ∙ take-append-add xs ys (n - length xs)

-- a book's bytes, and an attribute
module _ (b : List ℕ) (a : ℕ) (held : Held b) (h : a < 16) where
  -- where its field stands, the field, and the fields below and above
  abbrev at : ℕ
  at = place_of (two_of b) a

  abbrev own : Option ℕ
  own = get_or (decode b) a None

  abbrev front : List ℕ
  front = two (map_of (decode b)) ++ packed four (take a (decode b))

  abbrev above : List ℕ
  above = packed four (drop (suc a) (decode b))

  facts : Facts (decode b)
  facts = decode-facts b held.1

  within : a < length (decode b)
  within = omega (arith, facts.0)

  map_is : map_of (decode b) ≡ two_of b
  map_is = map-decode b held.1

  -- the attribute's bit of the map says whether it has a number
  pub bit_there : eqb (two_of b / 2 ^ a % 2) 1 ≡ is_some own
  bit_there = ap (λ m. eqb (m / 2 ^ a % 2) 1) (sym map_is) ∙ ap (λ x. eqb x 1) (bit_of (decode b) a) ∙ set_bit _

  around : (rest : List ℕ) × (b ≡ front ++ (optional four own ++ (above ++ rest)))
  around =
      let most = ones-le 16 (two_of b) (omega (arith, held.1 0, held.1 1)) in
      let parts = encode-decode b held.1 (omega (arith, held.0)) in (
        parts.0,
        parts.1 ∙ ap (λ fs. encode fs ++ parts.0) (sym (set-get_or (decode b) a None)) ∙ laid (decode b) a own parts.0 within
            ∙ ap (λ fs. two (map_of fs) ++ (packed four (take a (decode b)) ++ (optional four own ++ (above ++ parts.0)))) (set-get_or (decode b) a None),
      )

  place : length front ≡ at
  place = omega (arith, length-packed (take a (decode b)), ap ones (map_take (decode b) a), ap (λ m. ones (m % 2 ^ a)) map_is)

  before : take at b ≡ front
  before = ap (take at) around.1 ∙ take_at front _ at place

  behind : drop at b ≡ optional four own ++ (above ++ around.0)
  behind = ap (drop at) around.1 ∙ drop_at front _ at place

  past : is_some own ≡ true → drop (at + 4) b ≡ above ++ around.0
  past t = sym (drop-drop 4 at b) ∙ ap (drop 4) behind ∙ drop_at (optional four own) _ 4 (four_there own t)

  pub look_there : is_some own ≡ true → Some (four_of (drop at b)) ≡ own
  look_there t = ap (λ l. Some (four_of l)) behind ∙ found own _ t (facts.1 a)

  -- how far the map may rise and fall
  pub map_rises : is_some own ≡ false → two_of b + 2 ^ a < 2 ^ 16
  map_rises t =
      let gs = set (decode b) a (Some 0) in
      let low : map_of gs < 2 ^ 16 = subst (λ n. map_of gs < 2 ^ n) (length-set (decode b) a (Some 0) ∙ facts.0) (map_below gs) in
      omega (arith, map_gained (decode b) a 0 within t, map_is)

  pub map_falls : is_some own ≡ true → 2 ^ a ≤ two_of b
  map_falls t = omega (arith, map_lost (decode b) a within t, map_is)

  -- a record with the field set, and any bytes behind it
  rebuilt : (v : Option ℕ) (m : ℕ) (rest z : List ℕ) → small v ≡ true → m ≡ map_of (set (decode b) a v)
      → z ≡ two m ++ (packed four (take a (decode b)) ++ (optional four v ++ (above ++ rest))) → decode z ≡ set (decode b) a v
  rebuilt v m rest z s e q =
      ap decode (q ∙ ap (λ k. two k ++ (packed four (take a (decode b)) ++ (optional four v ++ (above ++ rest)))) e ∙ sym (laid (decode b) a v rest within))
      ∙ decode-encode (set (decode b) a v) rest (facts-set (decode b) a v h facts s)

  -- the three ways of setting
  pub replaced : (n : ℕ) (z : List ℕ) → n < 4294967296 → is_some own ≡ true → z ≡ take at b ++ (four n ++ drop (at + 4) b) → decode z ≡ set (decode b) a (Some n)
  replaced n z s t e = rebuilt (Some n) _ around.0 z (lt-ltb _ _ s) (map_kept (decode b) a n within t) (e ∙ rw (before, past t) refl)

  pub inserted : (n : ℕ) (g p z : List ℕ) → n < 4294967296 → is_some own ≡ false → take at g ≡ take at b → drop (at + 4) g ≡ take (62 - at) (drop at b)
      → p ≡ take at g ++ (four n ++ drop (at + 4) g) → z ≡ two (two_of b + 2 ^ a) ++ drop 2 p → decode z ≡ set (decode b) a (Some n)
  inserted n g p z s t first last e q =
      let low = ones-le a (two_of b % 2 ^ a) (mod_below (two_of b) (2 ^ a) (pow_pos a)) in
      let high = ones-le _ (map_of (drop (suc a) (decode b))) (map_below (drop (suc a) (decode b))) in
      let room : length above ≤ 62 - at = omega (arith, length-packed (drop (suc a) (decode b)), length-drop (suc a) (decode b), facts.0) in
      let moved : drop (at + 4) g ≡ above ++ take (62 - at - length above) around.0 =
      last ∙ ap (take (62 - at)) (behind ∙ ap (λ l. l ++ (above ++ around.0)) (none_there own t)) ∙ take_past (62 - at) above around.0 room in
      let gained : two_of b + 2 ^ a ≡ map_of (set (decode b) a (Some n)) = omega (arith, map_gained (decode b) a n within t, map_is) in
      let whole : p ≡ front ++ (four n ++ (above ++ take (62 - at - length above) around.0)) = e ∙ rw (first, before, moved) refl in
      rebuilt (Some n) _ _ z (lt-ltb _ _ s) gained (q ∙ ap (λ l. two (two_of b + 2 ^ a) ++ drop 2 l) whole)

  pub removed : (y z : List ℕ) → is_some own ≡ true → take at y ≡ take at b → take (62 - at) (drop at y) ≡ drop (at + 4) b
      → z ≡ two (two_of b - 2 ^ a) ++ drop 2 y → decode z ≡ set (decode b) a None
  removed y z t first last q =
      let rest = drop (62 - at) (drop at y) in
      let moved : drop at y ≡ above ++ (around.0 ++ rest) = sym (take-append-drop (62 - at) (drop at y)) ∙ ap (λ l. l ++ rest) (last ∙ past t) ∙ append_assoc above around.0 rest in
      let whole : y ≡ front ++ (above ++ (around.0 ++ rest)) = sym (take-append-drop at y) ∙ ap (λ l. l ++ drop at y) (first ∙ before) ∙ ap (λ l. front ++ l) moved in
      let lost : two_of b - 2 ^ a ≡ map_of (set (decode b) a None) = omega (arith, map_lost (decode b) a within t, map_is) in
      rebuilt None _ _ z refl lost (q ∙ ap (λ l. two (two_of b - 2 ^ a) ++ drop 2 l) whole)
