use Rattle.std.proofs.Common.{◌≡◌, ◌≤◌, ℕ, Some, slice_get, vec_capacity, vec_len}
use Rattle.crossbeam_queue.specs.Passes.{IsPassOf}
use Rattle.listener_hands.proofs.lines.make_queues.Given as goal

-- there is a queue for each child so far, and its seat
abbrev pub invariant-loop : goal.invariant-loop
invariant-loop g l =
    record {
      queues : vec_len l.queues ≡ l.counter;
      seats : vec_len l.seats ≡ l.counter;
      room : l.children ≤ vec_capacity l.queues;
      seat_room : l.children ≤ vec_capacity l.seats;
      own : (child : ℕ) (queue : _) (seat : _) → slice_get l.queues.items child ≡ Some queue → slice_get l.seats.items child ≡ Some seat → IsPassOf queue.ring seat;
    }
