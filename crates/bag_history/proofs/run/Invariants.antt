use Rattle.std.proofs.Common.{◌≡◌, map, length, take, drop}
use Rattle.bag.specs.Held.{held, Framed}
use Rattle.bag_history.specs.History.{asked, Lawful}
use Rattle.bag_history.proofs.run.Given as goal

abbrev pub invariant-loop-i : goal.invariant-loop-i
invariant-loop-i g l =
    (map asked (take l.i l.log) ≡ take l.i l.calls)
    × (drop l.i l.log ≡ drop l.i l.initial.log)
    × Framed l.initial.bag l.bag
    × Lawful g.R.Ranked.before g.R.Tagged.tagged (length l.initial.bag.slots.now) (held l.initial.bag) (take l.i l.log) (held l.bag)
