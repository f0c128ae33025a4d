use Rattle.std.proofs.Common.{◌<◌, length, refl, ◌∙◌, subst, arith}
use Rattle.std.proofs.lemmas.List.{length-take, get_or-take}
use Rattle.bag.specs.Held.{held}
use Rattle.bag_history.specs.History.{Step}
use Rattle.bag.proofs.Frames.{framed_none, framed_then}
use Rattle.bag_history.proofs.Sequences.{lawful_none, lawful_more, asked_more, rest_more}
use Rattle.bag_history.proofs.run.Goals as goal

pub loop-i-init : goal.loop-i-init
loop-i-init g c =
    (refl, refl, framed_none c.args.bag.now, lawful_none g.R.Ranked.before g.R.Tagged.tagged _ (held c.args.bag.now))

pub loop-i-preserved : goal.loop-i-preserved
loop-i-preserved g c =
    let i = c.loop-i.i in
    let n = c.min-n.result in
    let log = c.loop-i.log in
    let calls = c.args.calls.now in
    let e = c.make.result in
    let inv = c.loop-i.invariant in
    let long = length-take n calls in
    let h : i < length log = omega arith in
    let k : i < length calls = omega arith in
    let read = c.call-item.is ∙ get_or-take n calls i c.call-item.result (omega arith) in
    let room = subst (λ n. Step g.R.Ranked.before g.R.Tagged.tagged n (held c.loop-i.bag) e (held c.make.new.bag)) inv.2.long c.make.ensures.step in (
      asked_more log _ i e h refl calls _ k inv.0 (c.make.ensures.asked ∙ read),
      rest_more log _ i e h refl c.args.log.now inv.1,
      framed_then _ _ _ inv.2 c.make.ensures.framed,
      lawful_more g.R.Ranked.before g.R.Tagged.tagged _ _ log _ i _ e _ h refl inv.3 room,
    )
