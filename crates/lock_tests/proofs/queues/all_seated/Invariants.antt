use Rattle.std.proofs.Common.{◌≡◌, ℕ, Some}
use Rattle.std.specs.Prelude.{slice_get}
use Rattle.crossbeam_queue.specs.Passes.{IsPassOf}
use Rattle.lock_tests.proofs.queues.all_seated.Given as goal

-- the seats are the queue's
abbrev pub invariant-loop-number : goal.invariant-loop-number
invariant-loop-number l = (i : ℕ) (seat : _) → slice_get l.seats.items i ≡ Some seat → IsPassOf l.queue.ring seat
