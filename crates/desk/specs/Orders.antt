-- The open orders of a desk, and what each call does to them. Assumes nothing.
-- The orders stand in a list by rising number. Numbers are distinct, so equal sets of orders are equal lists.
use Rattle.std.specs.Prelude.{◌≡◌, ℕ, ◌<◌, ◌≤◌, true, false, cond, List, [], ◌∷◌, length, is_some, Some, None, Ok, Err, Option, Result, ◌==◌, nat_lt}
use Rattle.std.specs.List.{find}
use Rattle.desk.specs.declared.Order.{Order}
use Rattle.desk.specs.declared.Refusal.{Refusal}
use Rattle.desk.specs.declared.Refusal.TheVariants.{Full, AlreadyOpen, NotOpen}

-- the number that stands for a refusal
abbrev pub refusal_number : Refusal → ℕ
refusal_number Full = 41
refusal_number AlreadyOpen = 42
refusal_number NotOpen = 43

-- o, put before the first order with a larger number
abbrev pub inserted : Order → List Order → List Order
inserted o [] = o ∷ []
inserted o (x ∷ xs) = cond (nat_lt o.number x.number) (o ∷ x ∷ xs) (x ∷ inserted o xs)

-- the order numbered n
abbrev pub look_up : ℕ → List Order → Option Order
look_up n = find (λ x. x.number == n)

-- all but the order numbered n
abbrev pub without : ℕ → List Order → List Order
without n [] = []
without n (x ∷ xs) = cond (x.number == n) xs (x ∷ without n xs)

-- a list that begins, if at all, with a number above n
abbrev pub Above : ℕ → List Order → Type 0
Above n [] = Unit {0}
Above n (x ∷ xs) = n < x.number

-- each number is larger than the one before
abbrev pub Ascending : List Order → Type 0
Ascending [] = Unit {0}
Ascending (x ∷ xs) = Above x.number xs × Ascending xs

-- there is room for an order, and its number is not open
abbrev pub CanOpen : Order → List Order → Type 0
CanOpen o xs = (length xs < 64) × (is_some (look_up o.number xs) ≡ false)

-- an opening: what held before, and what it leaves
abbrev pub Opened : Order → List Order → List Order → Result (Unit {0}) Refusal → Type 0
Opened o before after (Ok u) = (length before < 64) × (look_up o.number before ≡ None) × (after ≡ inserted o before)
Opened o before after (Err Full) = (64 ≤ length before) × (after ≡ before)
Opened o before after (Err AlreadyOpen) = (length before < 64) × (is_some (look_up o.number before) ≡ true) × (after ≡ before)
Opened o before after (Err NotOpen) = ⊥

-- a closing: just the one order is taken out, and put in again it gives what was before
abbrev pub Closed : ℕ → List Order → List Order → Result Order Refusal → Type 0
Closed n before after (Ok o) = (o.number ≡ n) × (look_up n before ≡ Some o) × (after ≡ without n before) × (before ≡ inserted o after) × (look_up n after ≡ None)
Closed n before after (Err Full) = ⊥
Closed n before after (Err AlreadyOpen) = ⊥
Closed n before after (Err NotOpen) = (look_up n before ≡ None) × (after ≡ before)
