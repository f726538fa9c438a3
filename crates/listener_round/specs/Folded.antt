-- What was folded of a run, and all that it did.
-- Why it is so stands in docs/DECISIONS.md: 74, What is said of folded entries.
use Rattle.std.specs.Prelude.{◌≡◌, ◌+◌, List, map, ◌++◌}
use Rattle.conn_machine.specs.Runs.{after}
use Rattle.conn_machine.specs.Folds.{fold_of}
use Rattle.conn_machine.specs.Made.{AreMade, AreOfPasses}
use Rattle.conn_machine.specs.declared.event.Entry.{Entry}
use Rattle.conn_state.specs.Answered.{SeenEnded}
use Rattle.board_book.specs.Book.{SeenBook}
use Rattle.board.specs.Board.{AreClosed, AreEnded}
use Rattle.board.specs.ReportLine.{line_of}
use Rattle.listener_round.specs.FirstNumbers.{folded_by, opened_by}
use Rattle.board_book.specs.Timely.{AreTimely}
use Rattle.listener_round.specs.declared.run_numbers.RunNumbers.{RunNumbers}

-- what was folded of a run by these numbers: entries from the state in which it opens, each of which is one that its pass, one of so many,
-- may make where it stands, and is made while it is time for it; the connections that ended in them are those that they close, in order,
-- each of which shows what an ended connection shows; the state before the history that is kept is the one behind them; and the record is
-- what one fold makes of them
pub record HasFolded (n : RunNumbers) (b : SeenBook) : Type 0 where
  pub entries : List Entry
  pub ended : List SeenEnded
  pub made : AreMade (opened_by n) (folded_by n) entries
  pub few : AreOfPasses n.passes entries
  pub timely : AreTimely (opened_by n) entries
  pub base_is : b.base ≡ after (opened_by n) entries
  pub record_is : b.folded ≡ fold_of (opened_by n) entries (map line_of ended) (folded_by n)
  pub closed : AreClosed (opened_by n) entries ended
  pub answered : AreEnded ended

-- the book of a run by these numbers that has all its entries
abbrev pub whole_book : RunNumbers → List Entry → SeenBook
whole_book n entries =
    record { base = opened_by n; folded = folded_by n; history = entries; state = after (opened_by n) entries; passes = n.passes }

-- all entries of a run: those that were folded, and behind them the kept ones
abbrev pub all_entries : (n : RunNumbers) (b : SeenBook) → HasFolded n b → List Entry
all_entries n b before = before.entries ++ b.history
