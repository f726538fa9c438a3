use Rattle.std.proofs.Common.{◌≡◌, replicate}
use Rattle.conn_machine.specs.States.{unused_row}
use Rattle.conn_machine.proofs.rows.Rows.make.Given as goal

abbrev pub invariant-loop : goal.invariant-loop
invariant-loop l = l.items.items ≡ replicate l.counter unused_row
