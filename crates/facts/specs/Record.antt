-- The packed record: two bytes of map, then four bytes for each fact that is there, highest byte first. Assumes nothing.
use Rattle.std.specs.Prelude.{◌≡◌, ℕ, ◌+◌, ◌*◌, ◌%◌, ◌^◌, ◌<◌, ◌≤◌, Bool, true, false, ◌&&◌, List, [], ◌∷◌, ◌++◌, length, drop, replicate, Some, None, Ok, Err, Option, Result, ◌==◌, count_ones, nat_le}
use Rattle.std.specs.Int.{w16, w32, to_be_bytes, from_be_bytes}
use Rattle.facts.specs.declared.Refusal.{Refusal}
use Rattle.facts.specs.declared.Refusal.TheVariants.{WrongLength, BufferTooShort}
use Rattle.facts.specs.Facts.{Facts}
use Rattle.facts.specs.Packing.{Bytes, map_of, packed, unpacked}

-- a number in two bytes and in four, and the number that stands in front
abbrev pub two : ℕ → List ℕ
two v = to_be_bytes w16 v

abbrev pub two_of : List ℕ → ℕ
two_of bs = from_be_bytes w16 bs

abbrev pub four : ℕ → List ℕ
four v = to_be_bytes w32 v

abbrev pub four_of : List ℕ → ℕ
four_of bs = from_be_bytes w32 bs

-- the record of the facts
unfoldable pub encode : List (Option ℕ) → List ℕ
encode fs = two (map_of fs) ++ packed four fs

-- the facts of a record, whatever stands behind it
unfoldable pub decode : List ℕ → List (Option ℕ)
decode bs = unpacked 4 four_of 16 (two_of bs) (drop 2 bs)

-- the bytes in which a book holds its record: room for all sixteen facts
abbrev pub Held : List ℕ → Type 0
Held bs = (length bs ≡ 66) × Bytes bs

-- where the field of attribute a stands or would stand
abbrev pub place_of : ℕ → ℕ → ℕ
place_of m a = 2 + 4 * count_ones (m % 2 ^ a)

-- two bytes of map, and four for each bit that stands in it
abbrev pub whole : List ℕ → Bool
whole bs = nat_le 2 (length bs) && length bs == 2 + 4 * count_ones (two_of bs)

-- the facts before, the bytes that are loaded, the answer, and the facts after
abbrev pub Loaded : List (Option ℕ) → List ℕ → Result (Unit {0}) Refusal → List (Option ℕ) → Type 0
Loaded before bs (Ok u) after = (whole bs ≡ true) × (after ≡ decode bs) × (bs ≡ encode after)
Loaded before bs (Err e) after = (whole bs ≡ false) × (e ≡ WrongLength) × (after ≡ before)

-- the facts, the buffer before, the answer, and the buffer after
abbrev pub Written : List (Option ℕ) → List ℕ → Result ℕ Refusal → List ℕ → Type 0
Written fs before (Ok n) after =
    (n ≡ length (encode fs)) × (n ≤ length before) × (after ≡ encode fs ++ drop n before)
Written fs before (Err e) after =
    (length before < length (encode fs)) × (e ≡ BufferTooShort) × (after ≡ before)

-- one record for each set of facts, and one set of facts for each record
pub record OneForEach : Type 0 where
  -- loading what was written gives back the facts
  pub facts_back : (fs : List (Option ℕ)) → Facts fs → (whole (encode fs) ≡ true) × (decode (encode fs) ≡ fs)
  -- writing what was loaded gives back the bytes
  pub bytes_back : (bs : List ℕ) → Bytes bs → whole bs ≡ true → encode (decode bs) ≡ bs
  -- two records with the same facts are the same bytes
  pub alike : (bs cs : List ℕ) → Bytes bs → Bytes cs → whole bs ≡ true → whole cs ≡ true → decode bs ≡ decode cs → bs ≡ cs
  -- what is accepted is the record of some facts, and every record of facts is accepted
  pub only : (bs : List ℕ) → Bytes bs → whole bs ≡ true → (fs : List (Option ℕ)) × Facts fs × (bs ≡ encode fs)
  pub every : (bs : List ℕ) (fs : List (Option ℕ)) → Facts fs → bs ≡ encode fs → whole bs ≡ true

-- attribute 0 is 40, attribute 2 is 7, and all others are absent
abbrev pub example_facts : List (Option ℕ)
example_facts = Some 40 ∷ None ∷ Some 7 ∷ replicate 13 None

-- 0005 00000028 00000007
abbrev pub example_bytes : List ℕ
example_bytes = 0x00 ∷ 0x05 ∷ 0x00 ∷ 0x00 ∷ 0x00 ∷ 0x28 ∷ 0x00 ∷ 0x00 ∷ 0x00 ∷ 0x07 ∷ []

pub record WorkedExample : Type 0 where
  pub record_of : encode example_facts ≡ example_bytes
  pub facts_of : decode example_bytes ≡ example_facts
  pub accepted : whole example_bytes ≡ true
