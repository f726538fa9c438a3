use Rattle.std.proofs.Common.{◌≡◌, IfSome, subst, rules}
use Rattle.board.specs.Board.{SeenBoard}
use Rattle.board.specs.BoardInside.{AreParts}
use Rattle.board.specs.BoardParts.{seen_board}
use Rattle.board_book.specs.Finds.{FindsRow, IsFirstDue, is_late}
use Rattle.board.proofs.QueueLemmas.{overdue-finds, overdue-first}
use Rattle.board.proofs.board.Board.overdue.Goals as goal

pub returns-clause-late : goal.returns-clause-late
returns-clause-late g c =
    let inside = c.deref-parts.result.now in
    let invariant : AreParts g.N.Known.known inside = rw c.deref-parts.ensures c.self.invariant in
    let view_is : seen_board inside ≡ c.args.self.now = rw c.deref-parts.ensures c.self.view_is in
    subst (λ (v : SeenBoard). FindsRow (is_late v.book.state) v.book.state c.overdue.result) view_is
    (overdue-finds inside.book.state inside.queues _ c.overdue.result invariant.queued (search rules)
    c.overdue.ensures.none c.overdue.ensures.late)

pub returns-clause-first : goal.returns-clause-first
returns-clause-first g c =
    let inside = c.deref-parts.result.now in
    let invariant : AreParts g.N.Known.known inside = rw c.deref-parts.ensures c.self.invariant in
    let view_is : seen_board inside ≡ c.args.self.now = rw c.deref-parts.ensures c.self.view_is in
    subst (λ (v : SeenBoard). IfSome c.overdue.result (IsFirstDue v.book.state)) view_is
    (overdue-first inside.book.state inside.queues _ c.overdue.result invariant.queued
    c.overdue.ensures.late c.overdue.ensures.first)
