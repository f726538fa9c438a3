use Rattle.std.proofs.Common.{◌≡◌, ℕ, Some}
use Rattle.std.specs.Prelude.{slice_get}
use Rattle.crossbeam_queue.specs.Passes.{IsPassOf}
use Rattle.recycle_perch.specs.Looking.{AllAreOf}
use Rattle.lock_tests.proofs.posts.posts.Given as goal

-- the looks are at the perch, and the seats the queue's
abbrev pub invariant-loop-number : goal.invariant-loop-number
invariant-loop-number g l =
    AllAreOf l.perch.places l.all.items × ((i : ℕ) (seat : _) → slice_get l.seats.items i ≡ Some seat → IsPassOf l.queue.ring seat)
