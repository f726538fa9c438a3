use Rattle.std.proofs.Common.{◌≡◌, ◌≤◌}
use Rattle.board_lock.specs.Passes.{IsFree}
use Rattle.lock_examples.proofs.idles.reserves.Given as goal

-- the carrier has nothing
abbrev pub invariant-loop : goal.invariant-loop
invariant-loop l =
    (l.carrier.seat.table_id ≡ l.initial.carrier.seat.table_id) × IsFree l.carrier.seat.me × (l.got ≤ l.counter)
