use Rattle.std.proofs.Common.{◌≡◌, count_by, length, true}
use Rattle.conn_machine.specs.Children.{is_empty}
use Rattle.worker_group.specs.Service.{LeavesRest}
use Rattle.rounds.specs.TableInside.{IsOpening}
use Rattle.rounds.specs.PartsInside.{StartsSome}
use Rattle.conn_machine.specs.States.{is_staffed}
use Rattle.rounds.proofs.ChildrenLemmas.{StartsInOrder}
use Rattle.rounds.proofs.round.start_children.Given as goal

-- children were started, and the server goes on as before
abbrev pub invariant-loop-child : goal.invariant-loop-child
invariant-loop-child g l =
    record {
      starts : StartsSome l.fn.board.book l.board.book;
      first : IsOpening l.fn.board.book → StartsInOrder l.fn.board.book.base l.board.book;
      rest : LeavesRest l.fn.board.book l.board.book;
      going : l.board.book.state.going ≡ l.fn.board.book.state.going;
      staffed : is_staffed l.fn.board.book.state ≡ true → is_staffed l.board.book.state ≡ true;
      children : length l.board.book.state.children ≡ length l.fn.board.book.state.children;
    }

-- how many children are gone
abbrev pub decreases-loop-child : goal.decreases-loop-child
decreases-loop-child g l = count_by (λ c. is_empty c.phase) l.board.book.state.children
