-- What pass 0 knows between two turns that holds a connection, and how it may let go of it. All of it is said over what the pass has seen,
-- and lasts whatever others do meanwhile: of what it depends on the listener alone decides the rest.
use Rattle.std.specs.Prelude.{◌≡◌, ℕ, Bool, true, false, not, ◌&&◌, [], ◌∷◌, List, Option, None, Some, nat_le, is_some}
use Rattle.mpm_base.specs.declared.conn.Cause.{Cause}
use Rattle.mpm_base.specs.declared.conn.ConnName.{ConnName}
use Rattle.mpm_base.specs.declared.conn.Kind.{Kind}
use Rattle.mpm_base.specs.declared.conn.Kind.TheVariants.{KeepAlive}
use Rattle.mpm_base.specs.Count.{next_count}
use Rattle.conn_machine.specs.declared.event.Entry.{Entry}
use Rattle.conn_machine.specs.declared.event.Event.TheVariants as event
use Rattle.conn_machine.specs.declared.row.Row.{Row}
use Rattle.conn_machine.specs.declared.state.State.{State}
use Rattle.conn_machine.specs.Children.{is_stopping}
use Rattle.conn_machine.specs.Rows.{is_from, is_held, is_linger_kind, is_lingering, live_row, lives_and}
use Rattle.conn_machine.specs.Sound.{IsSound}
use Rattle.conn_machine.specs.States.{child_of, is_halted, is_signalled}
use Rattle.conn_machine.specs.Table.{is_allowed}
use Rattle.conn_state.specs.Conn.{SeenConn}
use Rattle.conn_state.specs.Known.{KnownOutside}
use Rattle.table_rule.specs.declared.view.View.{View}
use Rattle.board.specs.Backed.{BacksWait}
use Rattle.board.specs.Editions.{IsOfGeneration}
use Rattle.board_book.specs.Finds.{cause_of, has_to_be_drained, is_late, is_let_go, is_waiting}
use Rattle.board.specs.Fits.{Fits, FoundNoMore, IsOf, IsSettled}
use Rattle.board_turns.specs.Books.{book_of, state_of}
use Rattle.board_turns.specs.Turns.{HadTurn, state_found}
use Rattle.listener_turns.specs.declared.held.Due.{Due}
use Rattle.listener_turns.specs.declared.held.Due.TheVariants as due

-- ## A connection in hand

-- pass 0 has no turn, and the connection, which is of its generation
pub record Holds (known : Option KnownOutside) (v : View) (c : SeenConn) : Type 0 where
  pub turn : v.turn ≡ None
  pub number : v.who.number ≡ 0
  pub row : v.row ≡ Some c.name
  pub edition : IsOfGeneration known (book_of v) c.generation c.reader.limits c.site
  pub sound : IsSound (state_of v)

-- ## A connection that was taken up

-- why the listener takes up a connection that waits: it is late; its child stops, and nothing came for it; it lingers, and
-- something came; or the server has stopped
abbrev pub is_taken_for : Due → State → ℕ → Row → Bool
is_taken_for due.Late s slot r = is_late s slot r
is_taken_for due.Retiring s slot r = is_let_go s slot r
is_taken_for due.Lingering s slot r = has_to_be_drained s slot r
is_taken_for due.Halted s slot r = is_waiting slot r

-- what lasts of that of the row that it holds
abbrev pub is_held_for : Due → State → ℕ → Row → Bool
is_held_for due.Late s slot r = nat_le r.deadline s.moment
is_held_for due.Retiring s slot r =
    is_from KeepAlive r && is_stopping (child_of s r).phase && not (is_signalled s slot)
is_held_for due.Lingering s slot r = is_lingering r
is_held_for due.Halted s slot r = is_halted s.going

-- it took the connection of that name up for that, which it was due for in the state that its turn found
abbrev pub TookUpFor : Due → ConnName → View → View → Type 0
TookUpFor why name old new =
    (found : List Entry)
    × HadTurn found (event.Hold name ∷ []) old new
    × (lives_and (is_taken_for why (state_found old found) name.slot) (state_found old found).rows
    name
    ≡ true)

-- it holds the connection, which it took up for that: it waited for this kind, and lingered for this cause, where it did; its time is over,
-- or it isn't; and it is as it waited
pub record HoldsFor (why : Due) (known : Option KnownOutside) (v : View) (c : SeenConn)
    (kind : Kind) (lingered : Option Cause) (late : Bool) : Type 0 where
  pub holds : Holds known v c
  pub row : Row
  pub found : live_row (state_of v).rows c.name ≡ Some row
  pub held : is_held row.place ≡ true
  pub is_due : is_held_for why (state_of v) c.name.slot row ≡ true
  pub kind_is : row.from ≡ Some kind
  pub cause_is : row.cause ≡ lingered
  pub lingers : is_linger_kind kind ≡ is_some lingered
  pub late_is : late ≡ nat_le row.deadline (state_of v).moment
  pub fits : Fits c row
  pub settled : IsSettled kind lingered c

-- ## A connection that was taken

-- it holds the row of that name, child, generation and arrival, which it has just taken for the newest generation: nothing is left there of
-- the one before
pub record HasTaken (v : View) (name : ConnName) (child generation arrival : ℕ) : Type 0 where
  pub has : v.row ≡ Some name
  pub sound : IsSound (state_of v)
  pub row : Row
  pub found : live_row (state_of v).rows name ≡ Some row
  pub held : is_held row.place ≡ true
  pub fresh : row.from ≡ None
  pub serves : row.cause ≡ None
  pub child_is : row.child ≡ child
  pub generation_is : row.generation ≡ generation
  pub newest : generation ≡ (state_of v).newest
  pub arrival_is : row.arrival ≡ arrival
  pub counted : (state_of v).accepted ≡ next_count arrival
  pub notes : row.notes ≡ []
  pub waits : row.waits ≡ []

-- ## How it may let go of it

-- the connection may wait so: where the server has not stopped, its row may wait for this, and it is that row's, settled, as far on its way
-- out, and its link backs that wait
pub record MayWait (kind : Kind) (s : State) (c : SeenConn) : Type 0 where
  pub allowed : is_halted s.going ≡ false → is_allowed s (event.Park c.name kind) ≡ true
  pub fits : IsOf s c
  pub settled : IsSettled kind (cause_of s c.name) c
  pub turned : FoundNoMore kind c
  pub backed : BacksWait kind s c
