use Rattle.std.proofs.Common.{count_by}
use Rattle.conn_machine.specs.Children.{is_empty}
use Rattle.listener_turns.proofs.ChildrenLemmas.{HasStarted}
use Rattle.listener_turns.proofs.children.start_each.Given as goal

-- children were started
abbrev pub invariant-loop-child : goal.invariant-loop-child
invariant-loop-child g l = record { has : HasStarted l.fn.board l.board }

-- how many children are gone
abbrev pub decreases-loop-child : goal.decreases-loop-child
decreases-loop-child g l = count_by (λ c. is_empty c.phase) l.board.book.state.children
