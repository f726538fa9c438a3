use Rattle.std.proofs.Common.{◌≡◌, ◌+◌, ◌≤◌, ℕ, Some, true, vec_len}
use Rattle.std.specs.Prelude.{slice_get, vec_capacity}
use Rattle.crossbeam_queue.specs.Passes.{view, IsPassOf}
use Rattle.fd_queue.specs.Seats.{IsNewSeat}
use Rattle.fd_queue.proofs.queue.FdQueue.fill.Given as goal

-- the seats but for the first are made, one by one
abbrev pub invariant-loop : goal.invariant-loop
invariant-loop g l =
    IsPassOf l.self.ring l.first × IsNewSeat (view l.first) × (l.counter ≡ 1 → (view l.first).alone ≡ true) × (vec_len l.all + 1 ≡ l.counter)
    × (l.seats ≤ vec_capacity l.all)
    × ((i : ℕ) (seat : _) → slice_get l.all.items i ≡ Some seat → IsPassOf l.self.ring seat × IsNewSeat (view seat))
