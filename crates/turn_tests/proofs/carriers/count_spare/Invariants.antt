use Rattle.recycle_perch.specs.Looking.{AreOf}
use Rattle.turn_tests.proofs.carriers.count_spare.Given as goal

abbrev pub invariant-loop-count : goal.invariant-loop-count
invariant-loop-count l = AreOf l.perch.places l.looks
