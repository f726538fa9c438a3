use Rattle.std.proofs.Common.{◌≡◌, vec_len}
use Rattle.recycle_perch.specs.Looking.{AreOf}
use Rattle.listener_hands.proofs.serving.serve_here.Given as goal

-- the looks are at the perch
abbrev pub invariant-loop-child : goal.invariant-loop-child
invariant-loop-child g l = AreOf l.hands.perch.now.places l.looks × (vec_len l.lines ≡ vec_len l.initial.lines)
