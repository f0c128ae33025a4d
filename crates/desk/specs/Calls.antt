-- What calls on any desk come to, above the single call. Assumes nothing.
use Rattle.std.specs.Prelude.{◌≡◌, ℕ, ◌<◌, ◌≤◌, true, List, [], ◌∷◌, ◌++◌, length, count_by, is_some, Some, None, Ok, Err, Result, ◌==◌}
use Rattle.std.specs.List.{AllByRecursion}
use Rattle.desk.specs.declared.Order.{Order}
use Rattle.desk.specs.declared.Refusal.{Refusal}
use Rattle.desk.specs.declared.Refusal.TheVariants.{Full, AlreadyOpen, NotOpen}
use Rattle.desk.specs.Orders.{look_up, inserted, without, Opened}
use Rattle.desk.specs.Sets.{union}

-- how many orders have the number n
abbrev pub numbered : ℕ → List Order → ℕ
numbered n xs = count_by (λ x. x.number == n) xs

-- every number is below n
abbrev pub AllBelow : ℕ → List Order → Type 0
AllBelow n = AllByRecursion (λ x. x.number < n)

-- an order with a number above all others is opened: it comes last, unless 64 are open
abbrev pub OpenedLast : Order → List Order → List Order → Result (Unit {0}) Refusal → Type 0
OpenedLast o before after (Ok u) = (length before < 64) × (after ≡ before ++ o ∷ [])
OpenedLast o before after (Err Full) = (64 ≤ length before) × (after ≡ before)
OpenedLast o before after (Err AlreadyOpen) = ⊥
OpenedLast o before after (Err NotOpen) = ⊥

-- an opening and its closing: the order comes back whole, and the orders are what they were
abbrev pub CameBack : Order → List Order → List Order → Result Order Refusal → Type 0
CameBack o before after (Ok p) = (length before < 64) × (look_up o.number before ≡ None) × (p ≡ o) × (after ≡ before)
CameBack o before after (Err e) = Opened o before after (Err e)

-- the order numbered n goes from one desk to another: both together hold what they held, and a refusal changes neither
abbrev pub Transferred : ℕ → List Order → List Order → List Order → List Order → Result Order Refusal → Type 0
Transferred n from to from' to' (Ok o) =
    (look_up n from ≡ Some o) × (look_up n to ≡ None) × (length to < 64) × (from' ≡ without n from) × (to' ≡ inserted o to) × (union from' to' ≡ union from to)
Transferred n from to from' to' (Err NotOpen) = (look_up n from ≡ None) × (from' ≡ from) × (to' ≡ to)
Transferred n from to from' to' (Err Full) = (is_some (look_up n from) ≡ true) × (64 ≤ length to) × (from' ≡ from) × (to' ≡ to)
Transferred n from to from' to' (Err AlreadyOpen) =
    (is_some (look_up n from) ≡ true) × (length to < 64) × (is_some (look_up n to) ≡ true) × (from' ≡ from) × (to' ≡ to)
