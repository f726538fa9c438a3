-- The note that a book makes of a response.
use Rattle.std.specs.Prelude.{◌≡◌, Some}
use Rattle.mpm_base.specs.declared.conn.ConnName.{ConnName}
use Rattle.mpm_base.specs.declared.conn.Ask.{Ask}
use Rattle.mpm_base.specs.declared.note.Note.{Note}
use Rattle.conn_machine.specs.declared.row.Row.{Row}
use Rattle.conn_machine.specs.declared.state.State.{State}
use Rattle.conn_machine.specs.Rows.{live_row}
use Rattle.conn_machine.specs.Table.{note_for}

-- the note is that of the response to the live connection
pub record IsDecided (s : State) (name : ConnName) (ask : Ask) (note : Note) : Type 0 where
  pub row : Row
  pub found : live_row s.rows name ≡ Some row
  pub note_is : note ≡ note_for s name.slot ask row
