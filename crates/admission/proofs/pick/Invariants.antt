use Rattle.std.proofs.Common.{take}
use Rattle.admission.proofs.PickLemmas.{BestSoFar}
use Rattle.admission.proofs.pick.Given as goal

abbrev pub invariant-loop-child : goal.invariant-loop-child
invariant-loop-child l = BestSoFar (take l.child-index l.children) l.best
