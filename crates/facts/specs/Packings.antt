-- What is packed is unpacked again, and the other way round, for fields of one size. Assumes nothing.
use Rattle.std.specs.Prelude.{◌≡◌, ℕ, zero, suc, ◌+◌, ◌*◌, ◌/◌, ◌%◌, ◌^◌, ◌<◌, ◌≤◌, Bool, true, false, cond, List, [], ◌∷◌, ◌++◌, length, take, drop, Some, None, Option, ◌==◌, slice_index_or, slice_set, refl}
use Rattle.std.proofs.Common.{sym, ap, ◌∙◌, arith, pow-suc}
use Rattle.std.proofs.lemmas.Bool.Decides.{nat_tests}
use Rattle.std.proofs.lemmas.Grind.{flat_map-append, common_steps}
use Rattle.std.proofs.lemmas.List.{append_assoc, length-append, length-drop, drop_at, take-append-drop, get_or-drop, set_split}
use Rattle.facts.specs.Packing.{Bytes, map_of, optional, packed, unpacked}

-- a field that is set, between those below it and those above it
pub packed-set : {A : Type 0} (write : A → List ℕ) (fs : List (Option A)) (a : ℕ) (v : Option A) → a < length fs
    → packed write (slice_set fs a v) ≡ packed write (take a fs) ++ (optional write v ++ packed write (drop (suc a) fs))
packed-set write fs a v h = ap (packed write) (set_split fs a v h) ∙ flat_map-append (optional write) (take a fs) (v ∷ drop (suc a) fs)

pub length-unpacked : {A : Type 0} (size : ℕ) (read : List ℕ → A) (n m : ℕ) (bs : List ℕ) → length (unpacked size read n m bs) ≡ n
length-unpacked size read zero m bs = refl
length-unpacked size read (suc n) m bs = grind (arith, length-unpacked size read n (m / 2) (drop size bs), length-unpacked size read n (m / 2) bs)

-- the fields have the bits of the map
pub map-unpacked : {A : Type 0} (size : ℕ) (read : List ℕ → A) (n m : ℕ) (bs : List ℕ) → m < 2 ^ n → map_of (unpacked size read n m bs) ≡ m
map-unpacked size read zero m bs h = omega arith
map-unpacked size read (suc n) m bs h =
    let p = pow-suc 2 n in
    let half : m / 2 < 2 ^ n = omega arith in
    grind (arith, nat_tests, map-unpacked size read n (m / 2) (drop size bs) half, map-unpacked size read n (m / 2) bs half)

pub bytes_drop : (n : ℕ) (bs : List ℕ) → Bytes bs → Bytes (drop n bs)
bytes_drop n bs h k = rw (get_or-drop n bs k 0) (h (n + k))

pub bytes_take : (n : ℕ) (bs : List ℕ) → Bytes bs → Bytes (take n bs)
bytes_take n bs h k = let b = h k in grind (arith, common_steps)

-- a field that is there is good, and one that is absent
abbrev pub each : {A : Type 0} → (A → Bool) → Option A → Bool
each good None = true
each good (Some v) = good v

pub each-cons : {A : Type 0} (good : A → Bool) (f : Option A) (fs : List (Option A)) (k : ℕ) → each good f ≡ true
    → ((j : ℕ) → each good (slice_index_or fs j None) ≡ true) → each good (slice_index_or (f ∷ fs) k None) ≡ true
each-cons good f fs zero h t = h
each-cons good f fs (suc k) h t = t k

-- how one field is written in `size` bytes, and read from the front
pub record IsFormat {A : Type 0} (size : ℕ) (write : A → List ℕ) (read : List ℕ → A) (good : A → Bool) : Type 0 where
  pub long : (v : A) → length (write v) ≡ size
  pub reads : (v : A) (t : List ℕ) → good v ≡ true → read (write v ++ t) ≡ v
  pub writes : (bs : List ℕ) → Bytes bs → size ≤ length bs → write (read bs) ≡ take size bs
  pub fits : (bs : List ℕ) → Bytes bs → good (read bs) ≡ true

module _ {A : Type 0} (size : ℕ) (write : A → List ℕ) (read : List ℕ → A) (good : A → Bool) (format : IsFormat size write read good) where
  pub unpacked_packed : (fs : List (Option A)) (rest : List ℕ) → ((k : ℕ) → each good (slice_index_or fs k None) ≡ true)
      → unpacked size read (length fs) (map_of fs) (packed write fs ++ rest) ≡ fs
  unpacked_packed [] rest h = refl
  unpacked_packed (None ∷ fs) rest h =
      let odd : (0 + 2 * map_of fs) % 2 ≡ 0 = omega arith in
      let half : (0 + 2 * map_of fs) / 2 ≡ map_of fs = omega arith in
      rw (odd, half) (ap (λ l. None ∷ l) (unpacked_packed fs rest (λ k. h (suc k))))
  unpacked_packed (Some v ∷ fs) rest h =
      let odd : (1 + 2 * map_of fs) % 2 ≡ 1 = omega arith in
      let half : (1 + 2 * map_of fs) / 2 ≡ map_of fs = omega arith in
      let t = packed write fs ++ rest in
      rw (append_assoc (write v) (packed write fs) rest, odd, half, drop_at (write v) t size (format.long v), format.reads v t (h 0))
      (ap (λ l. Some v ∷ l) (unpacked_packed fs rest (λ k. h (suc k))))

  pub packed_unpacked : (n m : ℕ) (bs : List ℕ) → Bytes bs → length (packed write (unpacked size read n m bs)) ≤ length bs
      → (rest : List ℕ) × (bs ≡ packed write (unpacked size read n m bs) ++ rest)
  packed_unpacked zero m bs b = λ h. (bs, refl)
  packed_unpacked (suc n) m bs b =
      elim (m % 2 == 1) as (λ v. length (packed write (cond v (Some (read bs) ∷ unpacked size read n (m / 2) (drop size bs)) (None ∷ unpacked size read n (m / 2) bs))) ≤ length bs
      → (rest : List ℕ) × (bs ≡ packed write (cond v (Some (read bs) ∷ unpacked size read n (m / 2) (drop size bs)) (None ∷ unpacked size read n (m / 2) bs)) ++ rest)) [
        | true ↦ λ h.
            let fs = unpacked size read n (m / 2) (drop size bs) in
            let room : size + length (packed write fs) ≤ length bs = omega (arith, length-append (write (read bs)) (packed write fs), format.long (read bs)) in
            let later = packed_unpacked n (m / 2) (drop size bs) (bytes_drop size bs b) (simp length-drop (omega arith)) in (
              later.0,
              sym (take-append-drop size bs) ∙ ap (λ l. l ++ drop size bs) (sym (format.writes bs b (omega arith)))
                  ∙ ap (λ l. write (read bs) ++ l) later.1 ∙ sym (append_assoc (write (read bs)) (packed write fs) later.0),
            )
        | false ↦ λ h. packed_unpacked n (m / 2) bs b h
      ]

  pub good_unpacked : (n m : ℕ) (bs : List ℕ) → Bytes bs → (k : ℕ) → each good (slice_index_or (unpacked size read n m bs) k None) ≡ true
  good_unpacked zero m bs b k = refl
  good_unpacked (suc n) m bs b zero = let f = format.fits bs b in grind (arith, nat_tests, f)
  good_unpacked (suc n) m bs b (suc k) =
      grind (arith, nat_tests, good_unpacked n (m / 2) (drop size bs) (bytes_drop size bs b) k, good_unpacked n (m / 2) bs b k)
