-- The numbers by which faults are reported.
use Rattle.std.specs.Prelude.{ℕ}
use Rattle.layout.specs.declared.refusal.Fault.{Fault}
use Rattle.layout.specs.declared.refusal.Fault.TheVariants.{Short, Count, Map, Field, Left}

abbrev pub fault_number : Fault → ℕ
fault_number Short = 11
fault_number Count = 12
fault_number Map = 13
fault_number Field = 14
fault_number Left = 15
