use Rattle.std.proofs.Common.{◌≡◌, replicate}
use Rattle.conn_machine.specs.Children.{no_child}
use Rattle.conn_machine.proofs.child.Children.make.Given as goal

abbrev pub invariant-loop : goal.invariant-loop
invariant-loop l = l.items.items ≡ replicate l.counter no_child
