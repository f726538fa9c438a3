use Rattle.std.proofs.Common.{◌≡◌, IfSome}
use Rattle.recycle_perch.specs.Looking.{AreOf}
use Rattle.recycle_perch.specs.Resting.{IsFreeCarrier}
use Rattle.listener_hands.proofs.handing.hand_child.Given as goal

-- the looks are at the perch, and the next carrier has nothing
abbrev pub invariant-loop : goal.invariant-loop
invariant-loop g l =
    record {
      looks : AreOf l.hands.perch.now.places l.looks;
      own : IfSome l.next (λ carrier. carrier.seat.table_id ≡ g.M.Room.table);
      free : IfSome l.next (λ carrier. IsFreeCarrier carrier.seat.me);
    }
