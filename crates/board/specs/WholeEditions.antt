-- What a book says of editions that is left of a whole history, once first entries of it were folded.
use Rattle.std.specs.Prelude.{◌≡◌, ℕ, true, List, [], ◌++◌, Option}
use Rattle.http_read.specs.declared.request.Limits.{Limits}
use Rattle.file_table.specs.Site.{SeenSite}
use Rattle.conn_machine.specs.declared.event.Entry.{Entry}
use Rattle.conn_machine.specs.Folds.{HaveBegun, fold_of, is_in_use}
use Rattle.conn_machine.specs.Runs.{after}
use Rattle.conn_state.specs.Known.{KnownOutside}
use Rattle.board_book.specs.Book.{SeenBook}
use Rattle.board_book.specs.Editions.{KeepsEditions, UsedHaveEditions}
use Rattle.board.specs.Editions.{IsOfGeneration}

-- the book is left of the whole one, whose first entries were folded: its record is what one fold makes of them all, but for its lines
pub record IsLeftOf (whole b : SeenBook) : Type 0 where
  pub entries : List Entry
  pub history_is : whole.history ≡ entries ++ b.history
  pub base : b.base ≡ after whole.base entries
  pub one_fold : b.folded
      ≡ record (fold_of whole.base entries [] whole.folded) { lines = b.folded.lines }
  pub begun : HaveBegun whole.base whole.folded

-- the history of the book went on by these entries
abbrev pub with_more : List Entry → SeenBook → SeenBook
with_more more b = record b { history = b.history ++ more }

-- the editions of a book stand for those of the whole history that it is left of
pub record EditionsStandForWholeHistories : Type 0 where
  -- what has an edition in the book has it in the whole one
  pub keeps : (whole b : SeenBook) → IsLeftOf whole b → KeepsEditions b whole
  -- so a connection that is of its generation in the book is so in the whole one
  pub in_whole : (known : Option KnownOutside) (whole b : SeenBook) (generation : ℕ) (limits : Limits)
      (site : SeenSite)
      → IsLeftOf whole b
      → IsOfGeneration known b generation limits site
      → IsOfGeneration known whole generation limits site
  -- and the other way round, where the generation is in use
  pub in_left : (known : Option KnownOutside) (whole b : SeenBook) (generation : ℕ) (limits : Limits)
      (site : SeenSite)
      → IsLeftOf whole b
      → UsedHaveEditions b
      → is_in_use b.state generation ≡ true
      → IsOfGeneration known whole generation limits site
      → IsOfGeneration known b generation limits site
  -- a book stays left of the whole one where the same entries are put behind both
  pub goes_on : (whole b : SeenBook) (more : List Entry)
      → IsLeftOf whole b
      → IsLeftOf (with_more more whole) (with_more more b)
