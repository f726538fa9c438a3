use Rattle.std.proofs.Common.{◌≡◌, ◌≤◌, ◌+◌, length, vec_capacity, vec_len}
use Rattle.crossbeam_queue.specs.Passes.{IsPassOf}
use Rattle.listener_hands.proofs.LineLemmas.{AreLeft}
use Rattle.listener_hands.proofs.lines.make_lines.Given as goal

-- the seats that are left are those of the queues that are left, the last one first
abbrev pub invariant-loop-queue : goal.invariant-loop-queue
invariant-loop-queue g l =
    record {
      left : vec_len l.seats + l.queue-index ≡ length l.queues;
      lines : vec_len l.lines ≡ l.queue-index;
      room : length l.queues ≤ vec_capacity l.lines;
      own : AreLeft (λ queue seat. IsPassOf queue.ring seat) l.queues l.seats.items;
    }
