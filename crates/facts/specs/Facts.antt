-- What a fact book holds: sixteen facts, each absent or a number below 2 ^ 32, and what each call does to them. Assumes nothing.
use Rattle.std.specs.Prelude.{◌≡◌, ℕ, ◌<◌, ◌≤◌, max, Bool, true, cond, List, length, Some, None, Ok, Err, Option, Result, ◌==◌, nat_lt, slice_index_or, slice_set}
use Rattle.facts.specs.declared.Refusal.{Refusal}
use Rattle.facts.specs.declared.Refusal.TheVariants.{NoSuchAttribute, WrongLength, BufferTooShort}

-- the number that stands for a refusal
abbrev pub number_of : Refusal → ℕ
number_of NoSuchAttribute = 44
number_of WrongLength = 45
number_of BufferTooShort = 46

-- absent, or a number below 2 ^ 32
abbrev pub small : Option ℕ → Bool
small None = true
small (Some v) = nat_lt v 4294967296

-- sixteen facts, the one of attribute k at place k
abbrev pub Facts : List (Option ℕ) → Type 0
Facts fs = (length fs ≡ 16) × ((k : ℕ) → small (slice_index_or fs k None) ≡ true)

-- the answer to a look at an attribute
abbrev pub Looked : List (Option ℕ) → ℕ → Result (Option ℕ) Refusal → Type 0
Looked fs a (Ok found) = (a < 16) × (found ≡ slice_index_or fs a None)
Looked fs a (Err e) = (16 ≤ a) × (e ≡ NoSuchAttribute)

-- the facts before, the attribute and its new value, the answer, and the facts after
abbrev pub Changed : List (Option ℕ) → ℕ → Option ℕ → Result (Unit {0}) Refusal → List (Option ℕ) → Type 0
Changed before a v (Ok u) after = (a < 16) × (after ≡ slice_set before a v)
Changed before a v (Err e) after = (16 ≤ a) × (e ≡ NoSuchAttribute) × (after ≡ before)

-- the facts before, the attribute that is set and its value, the one that is looked at, the answer, and the facts after
abbrev pub SetAndLooked : List (Option ℕ) → ℕ → Option ℕ → ℕ → Result (Option ℕ) Refusal → List (Option ℕ) → Type 0
SetAndLooked before a v b (Ok found) after =
    (a < 16) × (b < 16) × (found ≡ cond (b == a) v (slice_index_or before b None)) × (after ≡ slice_set before a v)
SetAndLooked before a v b (Err e) after = (16 ≤ max a b) × (e ≡ NoSuchAttribute) × (after ≡ before)
