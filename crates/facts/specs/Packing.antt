-- A map and then only the fields whose bit stands, for fields of any kind. Assumes nothing.
use Rattle.std.specs.Prelude.{ℕ, zero, suc, ◌/◌, ◌%◌, ◌<◌, cond, List, [], ◌∷◌, map, drop, Some, None, Option, is_some, ◌==◌, slice_index}
use Rattle.std.specs.List.{flat_map}
use Rattle.std.specs.Simd.Lanes.{mask_l}

-- each is a byte
abbrev pub Bytes : List ℕ → Type 0
Bytes bs = (k : ℕ) → slice_index bs k < 256

-- the bit of a field
abbrev pub flag : {A : Type 0} → Option A → ℕ
flag f = cond (is_some f) 1 0

-- the map, in which bit k stands where field k is there
abbrev pub map_of : {A : Type 0} → List (Option A) → ℕ
map_of fs = mask_l (map is_some fs)

abbrev pub optional : {A : Type 0} → (A → List ℕ) → Option A → List ℕ
optional write None = []
optional write (Some v) = write v

-- the bytes of the fields that are there, rising
abbrev pub packed : {A : Type 0} → (A → List ℕ) → List (Option A) → List ℕ
packed write fs = flat_map (optional write) fs

-- the n fields of a map and the bytes behind it, where a field is read from the front and takes `size` bytes
abbrev pub unpacked : {A : Type 0} → ℕ → (List ℕ → A) → ℕ → ℕ → List ℕ → List (Option A)
unpacked size read zero m bs = []
unpacked size read (suc n) m bs =
    cond (m % 2 == 1)
    (Some (read bs) ∷ unpacked size read n (m / 2) (drop size bs))
    (None ∷ unpacked size read n (m / 2) bs)
