use Rattle.std.proofs.Common.{◌≡◌}
use Rattle.board_lock.specs.Passes.{IsFree}
use Rattle.lock_tests.proofs.turns.works.Given as goal

-- the pass stays pass 1, and has nothing
abbrev pub invariant-loop : goal.invariant-loop
invariant-loop g l =
    (l.pass.seat.table_id ≡ l.initial.pass.seat.table_id) × IsFree l.pass.seat.me × (l.pass.seat.me.0.who.number ≡ 1)
