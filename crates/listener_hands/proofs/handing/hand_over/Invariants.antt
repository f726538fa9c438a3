use Rattle.std.proofs.Common.{◌≡◌, IfSome, vec_len}
use Rattle.recycle_perch.specs.Looking.{AreOf}
use Rattle.recycle_perch.specs.Resting.{IsFreeCarrier}
use Rattle.listener_hands.proofs.handing.hand_over.Given as goal

-- the looks are at the perch, there are as many lines, and the carrier that is left has nothing
abbrev pub invariant-loop-child : goal.invariant-loop-child
invariant-loop-child g l =
    record {
      looks : AreOf l.hands.perch.now.places l.looks;
      lines : vec_len l.lines ≡ vec_len l.initial.lines;
      own : IfSome l.spare (λ carrier. carrier.seat.table_id ≡ g.M.Room.table);
      free : IfSome l.spare (λ carrier. IsFreeCarrier carrier.seat.me);
    }
