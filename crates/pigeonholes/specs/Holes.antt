-- The pigeonholes: what a row of 64 holes holds, and in what order it is probed. Assumes nothing.
use Rattle.std.specs.Prelude.{◌≡◌, ℕ, ◌+◌, ◌%◌, ◌<◌, Bool, true, false, not, List, length, is_some, Some, None, Ok, Err, Option, Result, ◌==◌, slice_index_or, slice_set}
use Rattle.std.specs.Fn.{Shared, FnReturnsAt}
use Rattle.std.specs.List.{filter_map}
use denote.Ref.{Bor}
use Rattle.desk.specs.declared.Order.{Order}
use Rattle.desk.specs.declared.Refusal.{Refusal}
use Rattle.desk.specs.Sets.{sorted, Distinct}

-- a hole is empty, or holds one order
abbrev pub Hole : Type 0
Hole = Option Order

-- the orders, hole by hole
abbrev pub held : List Hole → List Order
held = filter_map (λ h. h)

-- the same by rising number
abbrev pub orders_in : List Hole → List Order
orders_in hs = sorted (held hs)

-- 64 holes, and no two with one number
pub record HolesSound (hs : List Hole) : Type 0 where
  pub long : length hs ≡ 64
  pub distinct : Distinct (held hs)

-- whether a hole is free, and whether it holds the order numbered n
abbrev pub is_free : Hole → Bool
is_free h = not (is_some h)

abbrev pub holds : ℕ → Hole → Bool
holds n None = false
holds n (Some o) = o.number == n

-- f answers of each hole what the test p gives of it
abbrev pub Tests : {F : Type 0} → Shared F (Bor Hole × Unit {0}) Bool → F → (Hole → Bool) → Type 0
Tests g f p = (h : Hole) (r : Bool) → FnReturnsAt g f h r → r ≡ p h

-- the hole that is probed for n after so many steps: from the remainder by 64 on, and round
abbrev pub probed : ℕ → ℕ → ℕ
probed n steps = (n % 64 + steps) % 64

-- of the holes as they are probed for n, i is the first that passes the test p
pub record First (p : Hole → Bool) (n i : ℕ) (hs : List Hole) : Type 0 where
  pub steps : ℕ
  pub within : steps < 64
  pub here : i ≡ probed n steps
  pub is : p (slice_index_or hs i None) ≡ true
  pub before : (k : ℕ) → k < steps → p (slice_index_or hs (probed n k) None) ≡ false

-- no hole passes the test p
abbrev pub Nowhere : (Hole → Bool) → List Hole → Type 0
Nowhere p hs = (i : ℕ) → i < 64 → p (slice_index_or hs i None) ≡ false

-- an opening fills the first free hole that is probed for its number, and no other
abbrev pub Filled : Order → List Hole → List Hole → Result (Unit {0}) Refusal → Type 0
Filled o before after (Ok u) = (i : ℕ) × First is_free o.number i before × (after ≡ slice_set before i (Some o))
Filled o before after (Err e) = after ≡ before

-- a closing frees the first hole of the number that is probed for it, and no other
abbrev pub Freed : ℕ → List Hole → List Hole → Result Order Refusal → Type 0
Freed n before after (Ok o) = (i : ℕ) × First (holds n) n i before × (after ≡ slice_set before i None)
Freed n before after (Err e) = after ≡ before
