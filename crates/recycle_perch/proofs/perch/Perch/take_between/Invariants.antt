use Rattle.std.proofs.Common.{◌≤◌}
use Rattle.recycle_perch.specs.Looking.{AreOf, steps_of}
use Rattle.recycle_perch.specs.LookingInside.{TriedBetween}
use Rattle.recycle_perch.proofs.perch.Perch.take_between.Given as goal

-- at the places so far no carrier was found
abbrev pub invariant-loop-i : goal.invariant-loop-i
invariant-loop-i g l = AreOf l.self.places l.looks × (l.from ≤ l.i) × TriedBetween l.from l.i (steps_of l.initial.looks) (steps_of l.looks)
