use Rattle.std.proofs.Common.{rules, refl, arith}
use Rattle.std.proofs.lemmas.List.{places, same_lists}
use Rattle.bag.proofs.Lists.{held_after_put}
use Rattle.bag.proofs.slots.insert_at.Goals as goal

pub returns-clause-held : goal.returns-clause-held
returns-clause-held g c =
    held_after_put c.args.slots.now _ _ c.args.at c.args.count c.args.x (omega arith) (omega arith) refl c.rotate_right.ensures.after

pub returns-clause-beyond : goal.returns-clause-beyond
returns-clause-beyond g c = same_lists _ _ (search (rules, places)) (λ k d h. grind (arith, places))
