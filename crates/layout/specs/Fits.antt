-- Which parts are in range of a number of nodes, as a test. That a condition's constant has four bytes is in its type.
use Rattle.std.specs.Prelude.{ℕ, ◌/◌, ◌^◌, Bool, ◌&&◌, ◌==◌, count_ones, nat_le, nat_lt}
use Rattle.layout.specs.declared.parts.NodeSet.{NodeSet}
use Rattle.layout.specs.declared.parts.Condition.{Condition}
use Rattle.layout.specs.declared.parts.Condition.TheVariants.{Equal, AtLeast, LessThan, Absent, HoldsToken}

-- one to four of the n nodes
abbrev pub set_fits : ℕ → NodeSet → Bool
set_fits n s = nat_lt 0 (count_ones s.bits) && (nat_le (count_ones s.bits) 4 && s.bits / 2 ^ n == 0)

abbrev pub condition_fits : ℕ → Condition → Bool
condition_fits n (Equal a c) = nat_le a 15
condition_fits n (AtLeast a c) = nat_le a 15
condition_fits n (LessThan a c) = nat_le a 15
condition_fits n (Absent a) = nat_le a 15
condition_fits n (HoldsToken k) = nat_lt k n
