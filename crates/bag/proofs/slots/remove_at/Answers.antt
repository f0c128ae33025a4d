use Rattle.std.proofs.Common.{rules, refl, arith}
use Rattle.std.proofs.lemmas.Slice.{overwrites}
use Rattle.bag.proofs.Lists.{held_after_take}
use Rattle.bag.proofs.slots.remove_at.Goals as goal

pub returns-clause-held : goal.returns-clause-held
returns-clause-held g c =
    held_after_take c.args.slots.now _ _ c.args.at c.args.count (omega arith) (omega arith) refl c.rotate_left.ensures.after

pub returns-clause-beyond : goal.returns-clause-beyond
returns-clause-beyond g c = search (rules, overwrites)
