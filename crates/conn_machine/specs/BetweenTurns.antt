-- What holds again when a pass comes back to the table, whatever the others did meanwhile.
use Rattle.std.specs.Prelude.{◌≡◌, ◌≢◌, ◌≤◌, ℕ, true, false, ◌&&◌, List, Option, Some, slice_get}
use Rattle.std.specs.List.{list_any}
use Rattle.mpm_base.specs.declared.conn.ConnName.{ConnName}
use Rattle.conn_machine.specs.declared.event.Event.{Event}
use Rattle.conn_machine.specs.declared.event.Event.TheVariants as event
use Rattle.conn_machine.specs.declared.event.Entry.{Entry}
use Rattle.conn_machine.specs.declared.folded.Folded.{Folded}
use Rattle.conn_machine.specs.declared.row.Row.{Row}
use Rattle.conn_machine.specs.declared.state.State.{State}
use Rattle.conn_machine.specs.Children.{child_at}
use Rattle.conn_machine.specs.Events.{needs_child}
use Rattle.conn_machine.specs.Made.{AreMade, HasSeen}
use Rattle.conn_machine.specs.Passes.{EachHasItsOwn, HasNoneInHand, OnlyServes, asking_count}
use Rattle.conn_machine.specs.Rows.{is_live, is_live_in, live_row}
use Rattle.conn_machine.specs.Runs.{Run, after, first_row, may_make}
use Rattle.conn_machine.specs.Sound.{IsSound}
use Rattle.conn_machine.specs.States.{is_at_its_end, is_halted, is_signalled}
use Rattle.conn_machine.specs.Table.{is_allowed, may_be_queued}

-- a server that has stopped stays so, for the same reason
pub record StoppedServersStayStopped : Type 0 where
  -- in every run
  pub run : (base : State) (history : List Entry)
      → Run base history
      → is_halted base.going ≡ true
      → (after base history).going ≡ base.going
  -- so a pass that saw it finds it so
  pub seen : (base : State) (f : Folded) (p : ℕ) (seen history : List Entry)
      → AreMade base f history
      → HasSeen p seen history
      → is_halted (after base seen).going ≡ true
      → (after base history).going ≡ (after base seen).going

-- what passes other than the listener add leaves alone what the listener decides, however many they
-- are
pub record OthersLeaveTheRestToTheListener : Type 0 where
  -- all of that is as it was, but that lingering connections may be signalled
  pub rest : (base : State) (f : Folded) (seen history : List Entry)
      → AreMade base f history
      → HasSeen 0 seen history
      → OnlyServes (after base seen) (after base history)
  -- no more slots ask for service
  pub asking : (base : State) (f : Folded) (seen history : List Entry)
      → AreMade base f history
      → HasSeen 0 seen history
      → asking_count (after base history) ≤ asking_count (after base seen)

-- no connection that waits for service is signalled while a worker of its child is free
abbrev pub NoneIsDue : State → Type 0
NoneIsDue s =
    (slot : ℕ) (r : Row)
    → slice_get s.rows slot ≡ Some r
    → (is_signalled s slot && may_be_queued s r) ≡ false

-- where nothing is in hand, and no connection is due, nobody but the listener adds an entry: what it
-- has seen is all
abbrev pub QuietTablesAreTheListeners : Type 0
QuietTablesAreTheListeners =
    (base : State) (f : Folded) (seen history : List Entry)
    → EachHasItsOwn base (first_row f)
    → AreMade base f history
    → HasSeen 0 seen history
    → HasNoneInHand (after base seen)
    → NoneIsDue (after base seen)
    → history ≡ seen

-- no live connection is of a child that may be started, and no worker
pub record StartedChildrenHaveNobodysConnection : Type 0 where
  -- none of its rows is live
  pub none_live : (s : State) (k : ℕ)
      → IsSound s
      → is_allowed s (event.StartChild k) ≡ true
      → list_any (is_live_in k) s.rows ≡ false
  -- and it has no workers
  pub none_works : (s : State) (k : ℕ)
      → IsSound s
      → is_allowed s (event.StartChild k) ≡ true
      → (child_at s.children k).shape.threads ≡ 0
  -- so each one that is live is of another child
  pub other : (s : State) (k slot : ℕ) (r : Row)
      → IsSound s
      → is_allowed s (event.StartChild k) ≡ true
      → slice_get s.rows slot ≡ Some r
      → is_live r ≡ true
      → r.child ≢ k
  -- and so is that of each pass
  pub nobodys : (s : State) (has : ℕ → Option ConnName) (k p : ℕ) (name : ConnName)
      → IsSound s
      → EachHasItsOwn s has
      → is_allowed s (event.StartChild k) ≡ true
      → has p ≡ Some name
      → (r : Row) × (live_row s.rows name ≡ Some r) × (r.child ≢ k)

-- at the end of a graceful stop nothing is done any more of connections, and no child is started or let go of
pub record NothingIsDoneBehindTheEnd : Type 0 where
  -- an event of these is allowed only before
  pub allowed : (s : State) (e : Event)
      → IsSound s
      → is_allowed s e ≡ true
      → needs_child e ≡ true
      → is_at_its_end s ≡ false
  -- and passes other than the listener make no others
  pub others : (p : ℕ) (had : Option ConnName) (e : Event)
      → p ≢ 0
      → may_make p had e ≡ true
      → needs_child e ≡ true
