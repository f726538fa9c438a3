-- How a connection fits its row, and what holds of one that the board has.
-- Why it is so stands in docs/DECISIONS.md: 50, How far a waiting connection is on its way out.
use Rattle.std.specs.Prelude.{◌≡◌, ◌⊎◌, true, List, [], ◌∷◌, ◌++◌, Option, None, Some, IfSome, ⊤}
use Rattle.mpm_base.specs.declared.conn.Kind.{Kind}
use Rattle.mpm_base.specs.declared.conn.Kind.TheVariants.{Reading, KeepAlive, Writing, Linger, ShortLinger}
use Rattle.mpm_base.specs.declared.conn.ConnName.{ConnName}
use Rattle.mpm_base.specs.declared.conn.Cause.{Cause}
use Rattle.mpm_base.specs.declared.conn.Cause.TheVariants as cause
use Rattle.mpm_base.specs.declared.conn.Tail.{Tail}
use Rattle.mpm_base.specs.declared.note.Note.{Note}
use Rattle.conn_machine.specs.declared.row.Row.{Row}
use Rattle.conn_machine.specs.declared.state.State.{State}
use Rattle.conn_machine.specs.Rows.{live_row}
use Rattle.conn_state.specs.declared.turn.LastTurn.TheVariants as turn
use Rattle.conn_state.specs.declared.turn.LastLinger.TheVariants as linger
use Rattle.conn_state.specs.Reader.{keeps_none}
use Rattle.conn_state.specs.Conn.{SeenConn, IsConn, is_usable, lingers}
use Rattle.conn_state.specs.Answered.{SeenEnded, MayLinger}
use Rattle.board.specs.Backed.{AreBacked}

-- the connection is the one of the row: a link that tells has the row's arrival as its rank, and the link backs the row's waits
pub record Fits (c : SeenConn) (r : Row) : Type 0 where
  pub child : c.child ≡ r.child
  pub generation : c.generation ≡ r.generation
  pub notes : c.notes ≡ r.notes
  pub rank : IfSome c.told (λ t. t.rank ≡ r.arrival)
  pub backed : AreBacked r.waits c.counts

-- ## A connection that waits

-- it waits for a further request: its last turn found no byte of one
pub record WaitsForNext (c : SeenConn) : Type 0 where
  pub turn : c.turn ≡ turn.More
  pub none_kept : keeps_none c.reader ≡ true

-- the connection may wait so: as new or after a turn that found no whole request; after one that found nothing at all; after
-- one that found no room to write; or, to linger, after one in which nothing failed
abbrev pub WaitsAs : Kind → SeenConn → Type 0
WaitsAs Reading c = (c.turn ≡ turn.New) ⊎ (c.turn ≡ turn.More)
WaitsAs KeepAlive c = WaitsForNext c
WaitsAs Writing c = c.turn ≡ turn.NotReady
WaitsAs Linger c = is_usable c.turn ≡ true
WaitsAs ShortLinger c = is_usable c.turn ≡ true

-- its link was half-closed, its client has not ended yet, and it shows the cause for which it lingers
pub record LingersFor (why : Cause) (c : SeenConn) : Type 0 where
  pub half_closed : lingers c.linger ≡ true
  pub shows : MayLinger why c

-- how far it is on its way out, where its row lingers for this cause or for none
abbrev pub IsOnItsWay : Option Cause → SeenConn → Type 0
IsOnItsWay None c = c.linger ≡ linger.Open
IsOnItsWay (Some why) c = LingersFor why c

-- what holds of a connection that waits, or did until it was taken up
pub record IsSettled (kind : Kind) (why : Option Cause) (c : SeenConn) : Type 0 where
  pub waits : WaitsAs kind c
  pub way : IsOnItsWay why c
  pub is_conn : IsConn c

-- the same by what its row waited for
abbrev pub IsSettledFrom : Option Kind → Option Cause → SeenConn → Type 0
IsSettledFrom None why c = ⊥
IsSettledFrom (Some kind) why c = IsSettled kind why c

-- one that lingers waits on only after a turn that found nothing more so far
abbrev pub FoundNoMore : Kind → SeenConn → Type 0
FoundNoMore Reading c = ⊤
FoundNoMore KeepAlive c = ⊤
FoundNoMore Writing c = ⊤
FoundNoMore Linger c = c.linger ≡ linger.NotReady
FoundNoMore ShortLinger c = c.linger ≡ linger.NotReady

-- ## A connection in hand

-- the connection is the one of a live row
pub record IsOf (s : State) (c : SeenConn) : Type 0 where
  pub row : Row
  pub found : live_row s.rows c.name ≡ Some row
  pub fits : Fits c row

-- the connection was handed out: it is the one of a live row, and as it waited
pub record IsTakenUp (s : State) (c : SeenConn) : Type 0 where
  pub row : Row
  pub found : live_row s.rows c.name ≡ Some row
  pub fits : Fits c row
  pub settled : IsSettledFrom row.from row.cause c

-- ## A connection that ended

-- the notes are those of the row; where memory lacked for its response, the last may be missing
abbrev pub NotesEnd : Cause → List Note → List Note → Type 0
NotesEnd cause.NoMemory notes noted =
    (notes ≡ noted) ⊎ ((note : Note) × (noted ≡ notes ++ note ∷ []))
NotesEnd other notes noted = notes ≡ noted

-- the connection that ended so is the one of a live row, whose waits its link backs
pub record IsClosing (s : State) (name : ConnName) (why : Cause) (how : Tail)
    (e : SeenEnded) : Type 0 where
  pub row : Row
  pub found : live_row s.rows name ≡ Some row
  pub name_is : e.name ≡ name
  pub cause : e.cause ≡ why
  pub tail : e.tail ≡ how
  pub child : e.child ≡ row.child
  pub generation : e.generation ≡ row.generation
  pub notes : NotesEnd why e.notes row.notes
  pub rank : IfSome e.told (λ t. t.rank ≡ row.arrival)
  pub backed : AreBacked row.waits e.counts
