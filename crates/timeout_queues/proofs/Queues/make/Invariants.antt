use Rattle.std.proofs.Common.{◌≡◌, ◌≤◌, None, replicate, vec_len, vec_capacity}
use Rattle.timeout_queues.proofs.Queues.make.Given as goal

-- as many empty slots as there were turns, and room for all
abbrev pub invariant-loop : goal.invariant-loop
invariant-loop l = record {
  empty : l.kept.items ≡ replicate l.counter None;
  count : vec_len l.kept ≡ l.counter;
  room : l.slots ≤ vec_capacity l.kept;
}
