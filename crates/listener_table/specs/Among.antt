-- What a pass did while others did theirs: the events that it added, and the connection that it has then.
use Rattle.std.specs.Prelude.{◌≡◌, ℕ, List, ◌++◌, Option}
use Rattle.mpm_base.specs.declared.conn.ConnName.{ConnName}
use Rattle.conn_machine.specs.declared.event.Entry.{Entry}
use Rattle.conn_machine.specs.declared.event.Event.{Event}
use Rattle.conn_machine.specs.Made.{AreMadeBehind}
use Rattle.conn_machine.specs.Runs.{own_events}
use Rattle.board_book.specs.Book.{SeenBook, row_in}

-- entries were added, each of which its pass may make where it stands; those of this pass are of these events in this order, and it has this
-- connection then, or none
pub record ActsAmong (who : ℕ) (events : List Event) (has : Option ConnName)
    (old new : SeenBook) : Type 0 where
  pub base : new.base ≡ old.base
  pub folded : new.folded ≡ old.folded
  pub passes : new.passes ≡ old.passes
  pub added : List Entry
  pub history : new.history ≡ old.history ++ added
  pub entries : AreMadeBehind old.base old.folded old.history added
  pub made : own_events who new.history ≡ own_events who old.history ++ events
  pub row : row_in who new ≡ has
