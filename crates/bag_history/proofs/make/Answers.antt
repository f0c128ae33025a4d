use Rattle.std.proofs.Common.{sym}
use Rattle.bag_history.proofs.Sequences.{step_put}
use Rattle.bag_history.proofs.make.Goals as goal

pub returns-in-Put : goal.returns-in-Put
returns-in-Put g c = record {
  asked = sym c.in-Put.is;
  step = step_put g.R.Ranked.before g.R.Tagged.tagged c.args.bag.now.slots.now c.args.bag.now.count.now c.in-Put.x c.put.result _ c.put.ensures.room c.put.ensures.held c.put.ensures.law;
  framed = c.put.ensures.framed;
}
