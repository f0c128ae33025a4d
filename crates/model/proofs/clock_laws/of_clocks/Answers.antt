-- Each law is proved of all clocks.
use Rattle.model.proofs.Following.{following}
use Rattle.model.proofs.Rings.{ringing}
use Rattle.model.proofs.clock_laws.of_clocks.Goals as goal

pub returns-clause-follows : goal.returns-clause-follows
returns-clause-follows c = following

pub returns-clause-rings : goal.returns-clause-rings
returns-clause-rings c = ringing
