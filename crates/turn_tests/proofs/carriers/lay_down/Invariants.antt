use Rattle.recycle_perch.specs.Looking.{AreOf}
use Rattle.turn_tests.proofs.carriers.lay_down.Given as goal

abbrev pub invariant-loop : goal.invariant-loop
invariant-loop g l = AreOf l.perch.places l.looks
