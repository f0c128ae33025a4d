-- The tray: orders as they came, without gaps. Assumes nothing.
use Rattle.std.specs.Prelude.{◌≡◌, ℕ, ◌-◌, ◌≤◌, List, [], ◌∷◌, ◌++◌, length, take, drop, replicate, Some, Ok, Err, Result, ◌<◌, slice_index_or}
use Rattle.desk.specs.declared.Order.{Order}
use Rattle.desk.specs.declared.Refusal.{Refusal}
use Rattle.desk.specs.Orders.{look_up, without}
use Rattle.desk.specs.Sets.{Distinct}

-- what a slot holds that no order lies in
abbrev pub blank : Order
blank = record { number = 0; node = 0; activity = 0 }

-- at most 64 orders, and no two with one number
pub record TraySound (orders : List Order) : Type 0 where
  pub few : length orders ≤ 64
  pub distinct : Distinct orders

-- of 64 slots the first len hold the orders, and the others are blank
pub record Filled (slots : List Order) (len : ℕ) : Type 0 where
  pub long : length slots ≡ 64
  pub few : len ≤ 64
  pub distinct : Distinct (take len slots)
  pub rest : drop len slots ≡ replicate (64 - len) blank

-- the slots in which the orders lie, and the blank ones behind them
abbrev pub slots_of : List Order → List Order
slots_of orders = orders ++ replicate (64 - length orders) blank

-- the order numbered n lies at i
pub record PlacedAt (n : ℕ) (orders : List Order) (i : ℕ) : Type 0 where
  pub inside : i < length orders
  pub found : look_up n orders ≡ Some (slice_index_or orders i blank)
  pub numbered : (slice_index_or orders i blank).number ≡ n

-- an opening puts its order behind all that came before
abbrev pub Joined : Order → List Order → List Order → Result (Unit {0}) Refusal → Type 0
Joined o before after (Ok u) = after ≡ before ++ o ∷ []
Joined o before after (Err e) = after ≡ before

-- a closing leaves the others as they came
abbrev pub Parted : ℕ → List Order → List Order → Result Order Refusal → Type 0
Parted n before after (Ok o) = after ≡ without n before
Parted n before after (Err e) = after ≡ before
