use Rattle.recycle_perch.specs.Looking.{AreOf}
use Rattle.listener_hands.proofs.serving.serve_line.Given as goal

-- the looks are at the perch
abbrev pub invariant-loop : goal.invariant-loop
invariant-loop g l = AreOf l.hands.perch.now.places l.looks
