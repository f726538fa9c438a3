use Rattle.std.proofs.Common.{◌≡◌, ℕ, Some}
use Rattle.std.specs.Prelude.{slice_get}
use Rattle.crossbeam_queue.specs.Passes.{IsPassOf}
use Rattle.recycle_perch.specs.Looking.{AllAreOf}
use Rattle.turn_tests.proofs.stage.workers.Given as goal

-- the looks and the seats that are left are of the perch and of the queue
abbrev pub invariant-loop : goal.invariant-loop
invariant-loop g l =
    record {
      looks : AllAreOf l.hands.perch.now.places l.looks.items;
      seats : (i : ℕ) (seat : _) → slice_get l.seats.items i ≡ Some seat → IsPassOf l.queue.ring seat;
    }
