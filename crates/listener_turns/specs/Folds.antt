-- What pass 0 left folded, as its view says: nothing else of it is seen above the lock until the value is taken out of it.
use Rattle.std.specs.Prelude.{◌≡◌, Bool, true, false, List, ◌++◌, map, Option}
use Rattle.conn_machine.specs.declared.event.Entry.{Entry}
use Rattle.conn_machine.specs.Folds.{fold_of, may_fold, opening_record}
use Rattle.conn_machine.specs.Runs.{after}
use Rattle.conn_state.specs.Answered.{SeenEnded}
use Rattle.conn_state.specs.Known.{KnownOutside}
use Rattle.table_rule.specs.declared.view.View.{View}
use Rattle.board.specs.Board.{AreClosed, AreEnded, EndedOfOutside}
use Rattle.board.specs.ReportLine.{line_of}
use Rattle.board_turns.specs.Books.{book_of}
use Rattle.board_turns.specs.Turns.{KeepsLeft}

-- all that the pass has seen is folded
abbrev pub IsFolded : View → Type 0
IsFolded v = v.left.entries ≡ v.seen

-- what the pass has seen goes on from what is folded by these entries, which weigh too little, or behind which too much was folded before
pub record IsTooEarly (v : View) : Type 0 where
  pub kept : List Entry
  pub seen : v.seen ≡ v.left.entries ++ kept
  pub early : may_fold v.left.folded kept ≡ false

-- all that the pass has seen was folded: these entries more than before. With them those connections went that they close, in order, each of
-- which shows what an ended connection shows; and the record counts both
pub record FoldsAll (known : Option KnownOutside) (old new : View) : Type 0 where
  pub all : IsFolded new
  pub behind : List Entry
  pub goes_on : new.left.entries ≡ old.left.entries ++ behind
  pub ended : List SeenEnded
  pub closed : AreClosed (after old.origin.state old.left.entries) behind ended
  pub answered : AreEnded ended
  pub outside : EndedOfOutside known (book_of new) ended
  pub record_is : new.left.folded
      ≡ fold_of (after old.origin.state old.left.entries) behind (map line_of ended)
      old.left.folded

-- nothing was folded, as it was too early for that
pub record FoldsNothing (old new : View) : Type 0 where
  pub early : IsTooEarly new
  pub left : KeepsLeft old new

-- the history was folded, or it was too early for that
abbrev pub FoldsWhereDue : Option KnownOutside → Bool → View → View → Type 0
FoldsWhereDue known true old new = FoldsAll known old new
FoldsWhereDue known false old new = FoldsNothing old new

-- ## Over all folds

-- the connections that ended in what is folded are those that its entries close, in order, each of which shows what an ended connection
-- shows; and the record is what one fold makes of all of them
pub record HasDropped (known : Option KnownOutside) (v : View) : Type 0 where
  pub ended : List SeenEnded
  pub closed : AreClosed v.origin.state v.left.entries ended
  pub answered : AreEnded ended
  pub outside : EndedOfOutside known (book_of v) ended
  pub record_is : v.left.folded
      ≡ fold_of v.origin.state v.left.entries (map line_of ended) (opening_record v.origin.passes)
