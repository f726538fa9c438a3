use Rattle.script_front.specs.DuePlacesInside.{AreUnmarked}
use Rattle.script_front.proofs.due_places.lowest.Given as goal

abbrev pub invariant-loop-place : goal.invariant-loop-place
invariant-loop-place l = AreUnmarked l.marks l.low l.place
