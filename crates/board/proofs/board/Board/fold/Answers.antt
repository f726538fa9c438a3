use Rattle.std.proofs.Common.{◌≡◌, map, vec_capacity, refl, arith}
use Rattle.conn_machine.specs.Folds.{lines_after}
use Rattle.board.specs.BoardInside.{AreParts}
use Rattle.board.specs.BoardParts.{seen_board}
use Rattle.board_book.specs.Book.{folded_book}
use Rattle.board_book.specs.BookInside.{lines_then}
use Rattle.board.specs.ReportLine.{line_of}
use Rattle.board.proofs.ClosedLemmas.{board_folded}
use Rattle.board.proofs.board.Board.fold.Goals as goal

pub invariant_of-self-2 : goal.invariant_of-self-2
invariant_of-self-2 g c =
    let inside = c.deref_mut-parts.result.now in
    let invariant : AreParts g.N.Known.known inside =
    rw c.deref_mut-parts.ensures.value c.self.invariant in
    let lines : lines_then c.in_ok-lines.lines inside.book.folded.lines ≡ lines_after (map line_of inside.ended.items) inside.book.folded.closed inside.book.folded.lines =
    rw (← c.folded-folded.ensures, ← c.as_slice.ensures.value) c.in_ok-lines.ensures in
    let folds : c.fold.new.self ≡ folded_book (map line_of inside.ended.items) inside.book = c.in_ok-fold.ensures.ok _ lines in
    rw (folds, c.clear.ensures.items)
    (board_folded _ (seen_board inside) inside.conns.slots inside.queues (vec_capacity inside.ended) (vec_capacity c.clear.new.self)
    c.generations_keep_their_editions.ensures c.show.ensures.sound c.show.ensures.state
    (omega (arith, c.clear.ensures.capacity)) invariant)

pub returns-clause-ok : goal.returns-clause-ok
returns-clause-ok g c =
    let inside = c.deref_mut-parts.result.now in
    let view_is : seen_board inside ≡ c.args.self.now =
    rw c.deref_mut-parts.ensures.value c.self.view_is in
    let lines : lines_then c.in_ok-lines.lines inside.book.folded.lines ≡ lines_after (map line_of inside.ended.items) inside.book.folded.closed inside.book.folded.lines =
    rw (← c.folded-folded.ensures, ← c.as_slice.ensures.value) c.in_ok-lines.ensures in
    let folds : c.fold.new.self ≡ folded_book (map line_of inside.ended.items) inside.book = c.in_ok-fold.ensures.ok _ lines in
    rw (folds, c.clear.ensures.items, ← view_is) refl
