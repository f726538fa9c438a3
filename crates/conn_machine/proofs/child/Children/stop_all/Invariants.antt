use Rattle.std.proofs.Common.{◌≡◌}
use Rattle.conn_machine.proofs.ChildLemmas.{stopped_to}
use Rattle.conn_machine.proofs.child.Children.stop_all.Given as goal

-- the children so far have stopped
abbrev pub invariant-loop-child : goal.invariant-loop-child
invariant-loop-child l = l.child-items ≡ stopped_to l.child-index l.initial.child-items
