use Rattle.std.proofs.Common.{take}
use Rattle.policy.specs.Told.{Told}
use Rattle.policy.proofs.tell_all.Given as goal

abbrev pub invariant-loop-edge : goal.invariant-loop-edge
invariant-loop-edge g l = Told g.P.Policy.moves l.initial.policy (take l.edge-index l.edges) l.policy
