use Rattle.std.proofs.Common.{◌≡◌}
use Rattle.crossbeam_queue.specs.Passes.{IsPassOf, view}
use Rattle.worker_threads.proofs.worker.next_item.Given as goal

-- the seat is the queue's, and took nothing
abbrev pub invariant-loop : goal.invariant-loop
invariant-loop g l = IsPassOf l.queue.ring l.seat × (view l.seat ≡ view l.initial.seat)
