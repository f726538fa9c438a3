use Rattle.std.proofs.Common.{count_by}
use Rattle.conn_machine.specs.Children.{is_stopping}
use Rattle.listener_turns.proofs.ChildrenLemmas.{HasRetired}
use Rattle.listener_turns.proofs.children.retire_each.Given as goal

-- children were let go of
abbrev pub invariant-loop-child : goal.invariant-loop-child
invariant-loop-child g l = record { has : HasRetired l.fn.board l.board }

-- how many children stop
abbrev pub decreases-loop-child : goal.decreases-loop-child
decreases-loop-child g l = count_by (λ c. is_stopping c.phase) l.board.book.state.children
