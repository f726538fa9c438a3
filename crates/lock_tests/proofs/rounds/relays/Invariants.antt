use Rattle.std.proofs.Common.{◌≤◌}
use Rattle.lock_tests.proofs.rounds.relays.Given as goal

-- no round counts twice
abbrev pub invariant-loop-number : goal.invariant-loop-number
invariant-loop-number g l = l.done ≤ l.number
