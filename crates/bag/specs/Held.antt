-- What a bag over lent slots and a lent count holds.
use Rattle.std.specs.Prelude.{◌≡◌, ℕ, ◌≤◌, List, length, take, drop}
use Rattle.bag.specs.declared.Bag.{Bag}

-- the records, the next to leave at the head
abbrev pub held : {R : Type 0} → Bag R → List R
held b = take b.count.now b.slots.now

-- the slots behind the first `n` are in `c` as they are in `b`
abbrev pub SameBeyond : {R : Type 0} → ℕ → Bag R → Bag R → Type 0
SameBeyond n b c = drop n c.slots.now ≡ drop n b.slots.now

-- the bag `c` is over the slots and the count of `b`; a count within the slots stays within
pub record Framed {R : Type 0} (b c : Bag R) : Type 0 where
  pub slots : c.slots.ghost_name ≡ b.slots.ghost_name
  pub count : c.count.ghost_name ≡ b.count.ghost_name
  pub long : length c.slots.now ≡ length b.slots.now
  pub fits : b.count.now ≤ length b.slots.now → c.count.now ≤ length c.slots.now
