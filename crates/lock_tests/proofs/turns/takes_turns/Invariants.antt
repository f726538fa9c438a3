use Rattle.std.proofs.Common.{◌≡◌, ◌≤◌}
use Rattle.board_lock.specs.Passes.{HasNoTurn}
use Rattle.lock_tests.proofs.turns.takes_turns.Given as goal

-- the pass has no turn, and no round counts twice
abbrev pub invariant-loop : goal.invariant-loop
invariant-loop g l = (l.pass.seat.table_id ≡ l.initial.pass.seat.table_id) × HasNoTurn l.pass.seat.me × (l.done ≤ l.counter)
