-- The numbers of the refusals.
use Rattle.std.specs.Prelude.{ℕ}
use Rattle.bag.specs.declared.refusal.Refusal.{Refusal}
use Rattle.bag.specs.declared.refusal.Refusal.TheVariants.{Full}

abbrev pub number_of : Refusal → ℕ
number_of Full = 47
