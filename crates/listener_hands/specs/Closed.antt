-- What the listener knows of the board that it is left with.
use Rattle.std.specs.Prelude.{◌≡◌, List, ◌++◌, map, Option}
use Rattle.conn_machine.specs.Folds.{fold_of, opening_record}
use Rattle.conn_machine.specs.Made.{AreMade, AreOfPasses}
use Rattle.conn_machine.specs.Runs.{AllAt, after}
use Rattle.conn_state.specs.Answered.{SeenEnded}
use Rattle.conn_state.specs.Known.{KnownOutside}
use Rattle.table_rule.specs.declared.view.View.{View}
use Rattle.table_rule.specs.Histories.{IsQueuedInTime}
use Rattle.board.specs.Board.{AreClosed, AreEnded, EndedOfOutside, SeenBoard}
use Rattle.board.specs.ReportLine.{line_of}
use Rattle.board_turns.specs.Books.{book_of, state_of}

-- all that was done is what the pass has seen: entries that each pass, one of so many, might make where it stood, and that handed each
-- connection over before its deadline. The board keeps the last of them; the first were folded, the connections that ended in them are those
-- that they close, in order, each of which shows what an ended connection shows, and the record is what one fold makes of them
pub record ClosesAs (known : Option KnownOutside) (v : View) (b : SeenBoard) : Type 0 where
  pub made : AreMade v.origin.state (opening_record v.origin.passes) v.seen
  pub few : AreOfPasses v.origin.passes v.seen
  pub queued : AllAt IsQueuedInTime v.origin.state v.seen
  pub passes : b.book.passes ≡ v.origin.passes
  pub history : v.seen ≡ v.left.entries ++ b.book.history
  pub base : b.book.base ≡ after v.origin.state v.left.entries
  pub state : b.book.state ≡ state_of v
  pub ended : List SeenEnded
  pub closed : AreClosed v.origin.state v.left.entries ended
  pub answered : AreEnded ended
  pub outside : EndedOfOutside known (book_of v) ended
  pub record_is : b.book.folded
      ≡ fold_of v.origin.state v.left.entries (map line_of ended) (opening_record v.origin.passes)
