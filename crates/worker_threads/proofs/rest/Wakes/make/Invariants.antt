use Rattle.std.proofs.Common.{◌≡◌, ◌≤◌, vec_len, vec_capacity}
use Rattle.worker_threads.proofs.rest.Wakes.make.Given as goal

-- so many were made as the loop counts, and there is room for all
abbrev pub invariant-loop : goal.invariant-loop
invariant-loop l =
    record {
      wakers : vec_len l.wakers ≡ l.counter;
      parkers : vec_len l.parkers ≡ l.counter;
      wakers_fit : l.initial.workers ≤ vec_capacity l.wakers;
      parkers_fit : l.initial.workers ≤ vec_capacity l.parkers;
    }
