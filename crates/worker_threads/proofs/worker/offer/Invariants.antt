use Rattle.std.proofs.Common.{◌≡◌, ℕ, List}
use Rattle.std.specs.List.{All}
use Rattle.recycle_perch.specs.Looking.{AreOf, steps_of}
use Rattle.recycle_perch.specs.Resting.{IsFreeCarrier}
use Rattle.worker_threads.specs.Working.{WereOffered}
use Rattle.worker_threads.proofs.worker.offer.Given as goal

-- the looks are at the perch, and each carrier that is left is free
abbrev pub invariant-loop : goal.invariant-loop
invariant-loop g l =
    record {
      looks : AreOf l.hands.perch.now.places l.looks;
      offers : (carriers : List ℕ) × WereOffered carriers (steps_of l.initial.looks) (steps_of l.looks);
      own : All (λ carrier. carrier.seat.table_id ≡ g.M.Room.table) l.back.items;
      free : All (λ carrier. IsFreeCarrier carrier.seat.me) l.back.items;
    }
