-- The law of runs is proved of every chart and every policy.
use Rattle.model.proofs.Runs.{law_of_runs}
use Rattle.model.proofs.Decided.{decides}
use Rattle.model.proofs.Answered.{goes_on}
use Rattle.model.proofs.laws.of_runs.Goals as goal

pub returns-clause-obeyed : goal.returns-clause-obeyed
returns-clause-obeyed g c = law_of_runs _ g.P.Policy.rank g.P.Policy.moves c.of_charts.ensures

pub returns-clause-decides : goal.returns-clause-decides
returns-clause-decides g c = decides g.P.Policy.rank g.P.Policy.moves

pub returns-clause-goes_on : goal.returns-clause-goes_on
returns-clause-goes_on g c = goes_on _ c.of_charts.ensures
