-- The note of a response is one of what was asked.
use Rattle.std.proofs.Common.{◌≡◌, Bool, true, false, ◌||◌, Some, None, if◌then◌else◌, is_some, refl, sym, subst}
use Rattle.mpm_base.specs.declared.conn.Ask.{Ask}
use Rattle.mpm_base.specs.declared.conn.ConnName.{ConnName}
use Rattle.mpm_base.specs.declared.note.Note.{Note}
use Rattle.mpm_base.specs.declared.note.Snapshot.{Snapshot}
use Rattle.conn_machine.specs.declared.state.State.{State}
use Rattle.conn_machine.specs.Shown.{snapshot_of}
use Rattle.conn_machine.specs.Table.{is_last_for, when_sending}
use Rattle.conn_state.specs.declared.turn.LastTurn.{LastTurn}
use Rattle.conn_state.specs.declared.turn.LastTurn.TheVariants as turn
use Rattle.conn_state.specs.Replies.{IsNoteFor}
use Rattle.conn_state.specs.Turns.{IsNoteOf}
use Rattle.board_book.specs.Decided.{IsDecided}

-- a page is there where it was asked for
page_there : (asked : Bool) (page : Snapshot) → is_some (if asked then Some page else None) ≡ asked
page_there true page = refl
page_there false page = refl

-- what closes by one of the first two reasons closes by one of five
closes_by : (a b c d e : Bool) → (a || b) ≡ true → (a || b || c || d || e) ≡ true
closes_by a b c d e first = rw first refl

-- what was decided for the connection is a note of what it was asked
noted_for : (s : State) (name : ConnName) (ask : Ask) (note : Note) → IsDecided s name ask note → IsNoteFor ask note
noted_for s name ask note decided =
    subst (IsNoteFor ask) (sym decided.note_is)
    (record {
      code = refl;
      asked_close = refl;
      page = page_there ask.page (snapshot_of (when_sending (is_last_for s ask decided.row) name.slot s));
      last = closes_by ask.asked_close ask.refused _ _ _;
    })

-- so the connection may take it
pub taken_by : (s : State) (name : ConnName) (ask : Ask) (note : Note) (t : LastTurn) → IsDecided s name ask note → t ≡ turn.Asked ask → IsNoteOf t note
taken_by s name ask note t decided asked = subst (λ (u : LastTurn). IsNoteOf u note) (sym asked) (noted_for s name ask note decided)
