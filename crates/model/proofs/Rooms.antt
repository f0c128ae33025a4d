-- What the answers of calls say of the case. Assumes nothing.
use Rattle.std.proofs.Common.{◌≡◌, ℕ, ◌<◌, ◌≤◌, true, length, is_some, Ok, Option, arith}
use Rattle.std.proofs.lemmas.Bool.Decides.{nat_tests}
use Rattle.desk.specs.Orders.{look_up}
use Rattle.model.specs.declared.call.Change.TheVariants.{Changed}
use Rattle.model.specs.State.{State}
use Rattle.model.specs.Calls.{latest, post_answer, tell_answer, report_answer, tick_answer}

pub post_room : (s : State) (v : ℕ) (u : Unit {0}) → Ok u ≡ post_answer s v → length s.events < 192
post_room s v u h = grind (arith, nat_tests)

pub tell_room : (s : State) (a : ℕ) (v : Option ℕ) → Ok Changed ≡ tell_answer s a v → length s.events < 192
tell_room s a v h = grind (arith, nat_tests)

pub report_room : (s : State) (n : ℕ) (u : Unit {0}) → Ok u ≡ report_answer s n → (is_some (look_up n s.orders) ≡ true) × (length s.events < 256)
report_room s n u h = grind (arith, nat_tests)

pub tick_room : (s : State) (m : ℕ) (u : Unit {0}) → Ok u ≡ tick_answer s m → m ≤ latest
tick_room s m u h = grind (arith, nat_tests)
