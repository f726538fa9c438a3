use Rattle.std.proofs.Common.{◌≡◌, subst, arith}
use Rattle.board.specs.Board.{SeenBoard}
use Rattle.board.specs.BoardInside.{AreParts}
use Rattle.board.specs.BoardParts.{seen_board}
use Rattle.board_book.specs.Finds.{FindsRow, is_waiting}
use Rattle.board.proofs.FindLemmas.{waiting-finds}
use Rattle.board.proofs.board.Board.parked.Goals as goal

pub returns : goal.returns
returns g c =
    let inside = c.deref-parts.result.now in
    let invariant : AreParts g.N.Known.known inside = rw c.deref-parts.ensures c.self.invariant in
    let view_is : seen_board inside ≡ c.args.self.now = rw c.deref-parts.ensures c.self.view_is in
    subst (λ (v : SeenBoard). FindsRow is_waiting v.book.state c.overdue.result) view_is
    (waiting-finds inside.book.state inside.queues _ c.overdue.result invariant.queued
    c.show.ensures.sound.numbers.deadlines (omega arith) c.overdue.ensures.none c.overdue.ensures.late)
