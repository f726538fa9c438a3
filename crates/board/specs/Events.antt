-- What an event leaves of a board, and what it gives.
use Rattle.std.specs.Prelude.{◌≡◌, ℕ}
use Rattle.mpm_base.specs.declared.conn.ConnName.{ConnName}
use Rattle.conn_machine.specs.declared.event.Event.{Event}
use Rattle.conn_machine.specs.declared.event.Reply.TheVariants.{Took}
use Rattle.conn_machine.specs.declared.state.State.{State}
use Rattle.conn_machine.specs.Table.{taken_reply}
use Rattle.board_book.specs.Book.{book_with_entry}
use Rattle.board.specs.Board.{SeenBoard}
use Rattle.board_book.specs.Faults.{IsOpen}

-- the board with one more entry of the pass; all else stays
abbrev pub with_recorded : ℕ → Event → SeenBoard → SeenBoard
with_recorded who event b = record b { book = book_with_entry who event b.book }

-- the event was recorded, and the server went on before; all else stayed
pub record IsAdded (who : ℕ) (event : Event) (old new : SeenBoard) : Type 0 where
  pub was_open : IsOpen old.book
  pub new_is : new ≡ with_recorded who event old

-- the name, child and generation are those that the machine replied
abbrev pub IsTaken : State → ConnName → ℕ → ℕ → Type 0
IsTaken s name child generation = Took name child generation ≡ taken_reply s name.slot
