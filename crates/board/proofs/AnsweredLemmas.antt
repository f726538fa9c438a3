-- A connection that is answered, and its row.
use Rattle.std.proofs.Common.{◌≡◌, true, false, not, List, ◌∷◌, [], ◌++◌, Option, Some, sym, ap, subst, ◌∙◌}
use Rattle.std.specs.Option.{option_map_or}
use Rattle.mpm_base.specs.declared.conn.ConnName.{ConnName}
use Rattle.mpm_base.specs.declared.conn.Ask.{Ask}
use Rattle.mpm_base.specs.declared.note.Note.{Note}
use Rattle.conn_machine.specs.declared.row.Row.{Row}
use Rattle.conn_machine.specs.declared.event.Event.TheVariants as event
use Rattle.conn_machine.specs.declared.state.State.{State}
use Rattle.conn_machine.specs.Rows.{is_live, live_row}
use Rattle.conn_machine.specs.Table.{next, note_for, answered_row}
use Rattle.conn_state.specs.Conn.{SeenConn}
use Rattle.conn_state.specs.Turns.{TakesNote}
use Rattle.board_book.specs.Decided.{IsDecided}
use Rattle.board.specs.Fits.{IsOf}
use Rattle.conn_machine.specs.HistoryLaws.{RowsChangeOneAtATime}
use Rattle.board.proofs.BoardLemmas.{LivesAs, lives_as}
use Rattle.board.proofs.EventLemmas.{in_phase-unused, answer_phase}
use Rattle.board.proofs.HandLemmas.{live_row-update}

-- a row that is found lives
found-lives : (rows : List Row) (name : ConnName) (row : Row) → live_row rows name ≡ Some row → LivesAs rows name (λ (r : Row). true)
found-lives rows name row found =
    lives_as rows name (λ (r : Row). true) (ap (λ (o : Option Row). option_map_or (λ (r : Row). true) o false) found)

-- it is found after the response was decided
answered-found : RowsChangeOneAtATime → (s : State) (name : ConnName) (ask : Ask) (row : Row) → live_row s.rows name ≡ Some row
    → live_row (next s (event.Answer name ask)).rows name ≡ Some (answered_row s name.slot ask row)
answered-found law s name ask row found =
    let lives = found-lives s.rows name row found in
    let same : lives.row ≡ row = cc (lives.found, found) in
    let live : is_live (answered_row s name.slot ask lives.row) ≡ true =
    ap not (in_phase-unused (answer_phase s ask lives.row) lives.row.place) ∙ lives.live in
    live_row-update law s.rows name lives.row (answered_row s name.slot ask) lives.at live lives.life
    ∙ ap (λ (r : Row). Some (answered_row s name.slot ask r)) same

-- the note is that of the row
decided-note : (s : State) (name : ConnName) (ask : Ask) (note : Note) (row : Row) → live_row s.rows name ≡ Some row
    → IsDecided s name ask note → note_for s name.slot ask row ≡ note
decided-note s name ask note row found decided =
    let same : row ≡ decided.row = cc (decided.found, found) in
    ap (note_for s name.slot ask) same ∙ sym decided.note_is

-- a connection that took the note is still the one of its row
pub of-answered : RowsChangeOneAtATime → (s : State) (c c' : SeenConn) (ask : Ask) (note : Note) → IsOf s c → IsDecided s c.name ask note
    → TakesNote note c c' → IsOf (next s (event.Answer c.name ask)) c'
of-answered law s c c' ask note of decided takes =
    let notes : c.notes ++ note ∷ [] ≡ of.row.notes ++ note_for s c.name.slot ask of.row ∷ [] =
    ap (λ (ns : List Note). ns ++ note ∷ []) of.fits.notes
    ∙ ap (λ (n : Note). of.row.notes ++ n ∷ []) (sym (decided-note s c.name ask note of.row of.found decided)) in
    subst (IsOf (next s (event.Answer c.name ask))) (sym takes.new_is)
    (record {
      row = answered_row s c.name.slot ask of.row;
      found = answered-found law s c.name ask of.row of.found;
      fits = record { child = of.fits.child; generation = of.fits.generation; notes = notes; rank = of.fits.rank; backed = of.fits.backed };
    })
