use Rattle.std.proofs.Common.{subst}
use Rattle.board_book.specs.Book.{SeenBook}
use Rattle.board_book.specs.Editions.{UsedHaveEditions}
use Rattle.board_book.proofs.BookLemmas.{shown_book}
use Rattle.board_book.proofs.EditionLemmas.{used_in}
use Rattle.board_book.proofs.book.Book.show_editions.Goals as goal

pub returns-clause-used : goal.returns-clause-used
returns-clause-used c =
    let inside = c.self.inside in
    let before = c.self.invariant in
    subst (λ (v : SeenBook). UsedHaveEditions v) c.self.view_is
    (used_in c.generations_begin_in_order.ensures (shown_book inside.base.value inside.folded inside.history.items inside.state) inside.editions.items.items before.has_editions
    before.state_is)
