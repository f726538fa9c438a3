-- How a board goes on by one event of a pass.
use Rattle.std.specs.Prelude.{◌≡◌, ℕ}
use Rattle.conn_machine.specs.declared.event.Event.{Event}
use Rattle.table_rule.specs.Histories.{Extends}
use Rattle.board.specs.Board.{SeenBoard}
use Rattle.board_book.specs.Book.{AddsOnly, book_with_entry}

-- the pass made the event, and the connections that had ended stay, with perhaps further ones
pub record MadeEvent (who : ℕ) (e : Event) (old new : SeenBoard) : Type 0 where
  pub book : new.book ≡ book_with_entry who e old.book
  pub ended : Extends old.ended new.ended
  pub adds : AddsOnly who old.book new.book
