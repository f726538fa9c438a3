-- What helps to prove, and no public contract reaches, of: Why a call of the board is refused, and what it records.
use Rattle.std.specs.Prelude.{◌≡◌, ℕ}
use Rattle.conn_machine.specs.declared.event.Event.{Event}
use Rattle.board_book.specs.Book.{SeenBook, book_with_entry}
use Rattle.board_book.specs.Editions.{KeepsEditions}
use Rattle.board_book.specs.Faults.{IsOpen}

-- the pass recorded the event, and the server went on before; generations keep their editions
pub record IsRecorded (who : ℕ) (event : Event) (old new : SeenBook) : Type 0 where
  pub was_open : IsOpen old
  pub new_is : new ≡ book_with_entry who event old
  pub keeps : KeepsEditions old (book_with_entry who event old)
