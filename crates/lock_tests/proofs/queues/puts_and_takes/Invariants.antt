use Rattle.std.proofs.Common.{◌≤◌}
use Rattle.crossbeam_queue.specs.Passes.{IsPassOf}
use Rattle.lock_tests.proofs.queues.puts_and_takes.Given as goal

-- the seat stays the queue's, and no round counts twice
abbrev pub invariant-loop-number : goal.invariant-loop-number
invariant-loop-number g l = IsPassOf l.queue.ring l.seat × (l.done ≤ l.number)
