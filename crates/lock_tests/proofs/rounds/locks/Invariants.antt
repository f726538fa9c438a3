use Rattle.std.proofs.Common.{◌≤◌}
use Rattle.lock_tests.proofs.rounds.locks.Given as goal

-- no round counts twice
abbrev pub invariant-loop : goal.invariant-loop
invariant-loop g l = l.done ≤ l.counter
