use Rattle.std.proofs.Common.{ap, vec_capacity, rules}
use Rattle.conn_machine.specs.declared.state.State.{State}
use Rattle.board.proofs.ClosedLemmas.{board_first}
use Rattle.board.proofs.board.Board.make.Goals as goal

pub invariant_of-result : goal.invariant_of-result
invariant_of-result g c =
    rw c.in-Ok.ensures.ok
    (board_first _ c.in_ok-book.book c.in_ok-conns.conns.slots c.new.result.items c.in_ok-queues.queues c.args.slots (vec_capacity c.new.result)
    (c.in_ok-book.ensures.history) (ap (λ (s : State). s.rows) c.in_ok-book.ensures.state)
    c.in_ok-conns.ensures.unused (search rules) c.in_ok-queues.ensures)
