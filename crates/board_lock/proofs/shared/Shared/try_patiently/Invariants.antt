use Rattle.std.proofs.Common.{◌≡◌}
use Rattle.board_lock.proofs.shared.Shared.try_patiently.Given as goal

-- the pass stays as it was
abbrev pub invariant-loop : goal.invariant-loop
invariant-loop g l = (l.pass.seat.table_id ≡ l.initial.pass.seat.table_id) × (l.pass.seat.me ≡ l.initial.pass.seat.me)
