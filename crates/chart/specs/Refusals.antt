-- The values and the number that each refusal is reported by.
use Rattle.std.specs.Prelude.{ℕ, Option}
use Rattle.std.specs.declared.option.Option.TheVariants as option-of
use Rattle.layout.specs.Numbers.{fault_number}
use Rattle.layout.specs.declared.refusal.ReadError as LayoutErrorType
use Rattle.layout.specs.declared.refusal.ReadError.TheVariants as LayoutError
use Rattle.chart.specs.declared.rules.Rule.{Rule}
use Rattle.chart.specs.declared.refusal.Refusal.{Refusal}
use Rattle.chart.specs.declared.refusal.Refusal.TheVariants.{Malformed, Broken}
use Rattle.chart.specs.declared.refusal.ReadError.{ReadError}
use Rattle.chart.specs.declared.refusal.ReadError.TheVariants.{Refused, Memory}

abbrev pub number_of : Refusal → ℕ
number_of (Malformed e) = fault_number e.fault
number_of (Broken r i) = 16

abbrev pub place_of : Refusal → ℕ
place_of (Malformed e) = e.place
place_of (Broken r i) = i

abbrev pub rule_of : Refusal → Option Rule
rule_of (Malformed e) = option-of.None
rule_of (Broken r i) = option-of.Some r

-- how a failure to read the layout is passed on
abbrev pub raised : LayoutErrorType.ReadError → ReadError
raised (LayoutError.Invalid e) = Refused (Malformed e)
raised LayoutError.Memory = Memory
