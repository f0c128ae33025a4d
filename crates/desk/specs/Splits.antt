-- The split desk: the orders of two desks together. Assumes nothing.
use Rattle.std.specs.Prelude.{ℕ, ◌+◌, ◌<◌, ◌≤◌, List, length}
use Rattle.std.specs.List.{AllByRecursion}
use Rattle.desk.specs.declared.Desk.{Ghosts}
use Rattle.desk.specs.declared.Order.{Order}
use Rattle.desk.specs.declared.split.Split.{Split}
use Rattle.desk.specs.Sets.{union, Disjoint}

-- two desks that are sound, P and Q, with the orders xs and ys: no number in both, 64 in all at most,
-- those of activities below b in the first and the others in the second
pub record Sides (P Q : Type 0) (b : ℕ) (xs ys : List Order) : Type 0 where
  pub first : P
  pub second : Q
  pub disjoint : Disjoint xs ys
  pub few : length xs + length ys ≤ 64
  pub low : AllByRecursion (λ o. o.activity < b) xs
  pub high : AllByRecursion (λ o. b ≤ o.activity) ys

-- of the split of two kinds of desk, from what each kind means
module _ {F S : Type 0} (first : Ghosts F) (second : Ghosts S) where
  -- the orders of both
  abbrev pub together : Split F S → List Order
  together d = union (first.orders d.first) (second.orders d.second)

  -- both are sound, and lie apart
  abbrev pub SplitSound : Split F S → Type 0
  SplitSound d = Sides (first.sound d.first) (second.sound d.second) d.bound (first.orders d.first) (second.orders d.second)
