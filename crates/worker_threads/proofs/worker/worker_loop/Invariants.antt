use Rattle.std.proofs.Common.{◌≡◌}
use Rattle.std.specs.List.{All}
use Rattle.crossbeam_queue.specs.Passes.{IsPassOf, view}
use Rattle.recycle_perch.specs.Looking.{AreOf, steps_of}
use Rattle.recycle_perch.specs.Resting.{IsFreeCarrier}
use Rattle.worker_threads.proofs.WorkingLemmas.{WorkedSoFar}
use Rattle.worker_threads.proofs.worker.worker_loop.Given as goal

-- the looks are at the perch, the seat is the queue's, what was taken was served, and each carrier that was kept is free
abbrev pub invariant-loop : goal.invariant-loop
invariant-loop g l =
    record {
      looks : AreOf l.hands.perch.now.places l.looks;
      seat : IsPassOf l.queue.ring l.seat;
      worked : WorkedSoFar (view l.initial.seat) (view l.seat) (steps_of l.initial.looks) (steps_of l.looks);
      own : All (λ carrier. carrier.seat.table_id ≡ g.M.Room.table) l.back.items;
      free : All (λ carrier. IsFreeCarrier carrier.seat.me) l.back.items;
    }
