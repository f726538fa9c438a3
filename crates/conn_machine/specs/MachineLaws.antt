-- The laws of the machine: what holds of every state, and of every run, that the event table allows.
use Rattle.std.specs.Prelude.{◌≡◌, ◌≢◌, ◌<◌, ◌≤◌, ◌↔◌, ℕ, ◌+◌, true, false, List, [], ◌∷◌, ◌++◌, count_by, map, min, Option, None, Some, slice_get}
use Rattle.std.specs.List.{list_any}
use Rattle.mpm_base.specs.Count.{greatest_count}
use Rattle.mpm_base.specs.declared.conn.ConnName.{ConnName}
use Rattle.mpm_base.specs.declared.conn.Cause.{Cause}
use Rattle.mpm_base.specs.declared.conn.Tail.{Tail}
use Rattle.mpm_base.specs.declared.shape.Shape.{Shape}
use Rattle.conn_machine.specs.declared.row.Phase.{Phase}
use Rattle.conn_machine.specs.declared.row.Owner.TheVariants as owner
use Rattle.conn_machine.specs.declared.row.Place.TheVariants.{Held, Working}
use Rattle.conn_machine.specs.declared.row.Row.{Row}
use Rattle.conn_machine.specs.declared.event.Event.{Event}
use Rattle.conn_machine.specs.declared.event.Event.TheVariants as event
use Rattle.conn_machine.specs.declared.event.Commanded.TheVariants.{Graceful}
use Rattle.conn_machine.specs.declared.event.Reply.TheVariants.{Took}
use Rattle.conn_machine.specs.declared.event.Entry.{Entry}
use Rattle.conn_machine.specs.declared.folded.Folded.{Folded}
use Rattle.conn_machine.specs.declared.state.State.{State}
use Rattle.conn_machine.specs.Arrivals.{arrival_count}
use Rattle.conn_machine.specs.Rows.{is_live, is_live_in, is_lingering, live_row, owner_of}
use Rattle.mpm_base.specs.Shape.{is_in_bounds}
use Rattle.conn_machine.specs.States.{opening_state, pick_child}
use Rattle.conn_machine.specs.Table.{is_allowed, next}
use Rattle.conn_machine.specs.Runs.{Adds, Run, after, entries_of, first_row, row_from}
use Rattle.conn_machine.specs.Folds.{HasPlacesFor, fold_of, opening_record}
use Rattle.conn_machine.specs.Made.{AreMade, AreOfPasses, HasSeen, IsOpened}
use Rattle.conn_machine.specs.Passes.{EachHasItsOwn, HasNoneInHand, OnlyServes, asking_count}
use Rattle.conn_machine.specs.Events.{count_events, is_accept, is_close}
use Rattle.conn_machine.specs.Sound.{IsSound}
use Rattle.conn_machine.specs.Waits.{waits_of}
use Rattle.conn_machine.specs.Laws.{IsChosen, IsEarned, IsTakenFor, StaysLingering, OnlyGrows, StartsFresh, StaysSound, is_alive, is_alive_or_closed}

-- soundness is kept: the opening state has it, each event that the table allows keeps it, and so
-- does every run
pub record EventsKeepStatesSound : Type 0 where
  pub opening : (slots children : ℕ) (shape : Shape)
      → is_in_bounds shape ≡ true
      → IsSound (opening_state slots children shape)
  pub step : (s : State) (e : Event)
      → IsSound s
      → is_allowed s e ≡ true
      → IsSound (next s e)
  pub run : (s : State) (history : List Entry)
      → IsSound s
      → Run s history
      → StaysSound s history

-- in every run from the opening state connections are handed to workers at most as often as
-- something came, and to the listener at most as often and three times for each connection
abbrev pub QueuesAndHoldsAreEarned : Type 0
QueuesAndHoldsAreEarned =
    (slots children : ℕ) (shape : Shape) (history : List Entry)
    → is_in_bounds shape ≡ true
    → Run (opening_state slots children shape) history
    → IsEarned history

-- each connection that was accepted was closed or is live, and closed at most once
pub record AcceptedConnectionsAreClosedOrLive : Type 0 where
  -- as many were accepted as were closed or are live
  pub closed_or_live : (slots children : ℕ) (shape : Shape) (history : List Entry)
      → Run (opening_state slots children shape) history
      → count_events is_accept history
      ≡ count_events is_close history
      + count_by is_live (after (opening_state slots children shape) history).rows
  -- each by its name is live, or an entry behind its own closed it
  pub named : (s : State) (before rest : List Entry) (e : Entry) (slot : ℕ) (name : ConnName)
      (child generation : ℕ)
      → Run s (before ++ e ∷ rest)
      → e.event ≡ event.Accept slot
      → e.reply ≡ Took name child generation
      → is_alive_or_closed (after s (before ++ e ∷ rest)) rest name ≡ true
  -- the state counts those that were accepted, as far as a count goes
  pub accepted : (slots children : ℕ) (shape : Shape) (history : List Entry)
      → (after (opening_state slots children shape) history).accepted
      ≡ min (count_events is_accept history) greatest_count

-- each connection that was taken has a number of its own, by the order in which they were taken,
-- while fewer were taken than the greatest count
pub record ArrivalsAreTakenOnce : Type 0 where
  -- of each of these numbers one connection is live, or one entry closed it
  pub once : (slots children : ℕ) (shape : Shape) (history : List Entry) (arrival : ℕ)
      → Run (opening_state slots children shape) history
      → (after (opening_state slots children shape) history).accepted < greatest_count
      → arrival < (after (opening_state slots children shape) history).accepted
      → arrival_count (opening_state slots children shape) history arrival ≡ 1
  -- of no other number was one closed or is one live
  pub no_other : (slots children : ℕ) (shape : Shape) (history : List Entry) (arrival : ℕ)
      → Run (opening_state slots children shape) history
      → (after (opening_state slots children shape) history).accepted < greatest_count
      → (after (opening_state slots children shape) history).accepted ≤ arrival
      → arrival_count (opening_state slots children shape) history arrival ≡ 0

-- a connection that was closed is never live again
abbrev pub ClosedNamesStayClosed : Type 0
ClosedNamesStayClosed =
    (s : State) (before rest : List Entry) (e : Entry) (name : ConnName) (why : Cause) (how : Tail)
    → Run s (before ++ e ∷ rest)
    → e.event ≡ event.Close name why how
    → is_alive (after s (before ++ e ∷ rest)) name ≡ false

-- connections that live at the same time share neither slot nor cell
pub record LiveConnectionsShareNothing : Type 0 where
  -- two have different slots
  pub slots : (rows : List Row) (name other : ConnName) (r r' : Row)
      → live_row rows name ≡ Some r
      → live_row rows other ≡ Some r'
      → name.slot ≡ other.slot
      → name ≡ other
  -- two of a child that are served have different cells
  pub cells : (s : State) (slot other cell : ℕ) (r r' : Row) (phase phase' : Phase)
      → IsSound s
      → slice_get s.rows slot ≡ Some r
      → slice_get s.rows other ≡ Some r'
      → r.place ≡ Working cell phase
      → r'.place ≡ Working cell phase'
      → r.child ≡ r'.child
      → slot ≡ other

-- a connection has an owner exactly while it is live
pub record LiveConnectionsHaveOneOwner : Type 0 where
  -- nobody has one that isn't live
  pub none : (r : Row) → (owner_of r ≡ None) ↔ (is_live r ≡ false)
  -- the listener has those that it holds, and no others
  pub listener : (r : Row) → (owner_of r ≡ Some owner.Listener) ↔ (r.place ≡ Held)
  -- a worker has one at most
  pub worker : (s : State) (slot other child cell : ℕ) (r r' : Row)
      → IsSound s
      → slice_get s.rows slot ≡ Some r
      → slice_get s.rows other ≡ Some r'
      → owner_of r ≡ Some (owner.Worker child cell)
      → owner_of r' ≡ Some (owner.Worker child cell)
      → slot ≡ other

-- a connection that is taken after a graceful restart is of the generation that it made, or of a
-- newer one
abbrev pub ReplacedGenerationsTakeNothing : Type 0
ReplacedGenerationsTakeNothing =
    (s : State) (before between rest : List Entry) (restart taking : Entry) (shape : Shape)
    (slot : ℕ) (name : ConnName) (child generation : ℕ)
    → Run s (before ++ restart ∷ between ++ taking ∷ rest)
    → restart.event ≡ event.Command (Graceful shape)
    → taking.event ≡ event.Accept slot
    → taking.reply ≡ Took name child generation
    → (after s before).newest < generation

-- no connection of a child that is let go of is live
abbrev pub RetiredChildrenAreDrained : Type 0
RetiredChildrenAreDrained =
    (s : State) (before rest : List Entry) (e : Entry) (child : ℕ)
    → Run s (before ++ e ∷ rest)
    → e.event ≡ event.Retire child
    → list_any (is_live_in child) (after s before).rows ≡ false

-- each connection is taken for the child that the rule of admission names
pub record ConnectionsGoToTheChosenChild : Type 0 where
  -- the rule names the child with most idle workers, and of those with as many the one with the
  -- lowest number
  pub picked : (s : State) (k : ℕ) → pick_child s ≡ Some k → IsChosen s k
  -- and so it is taken in every run
  pub taken : (s : State) (before rest : List Entry) (e : Entry) (slot : ℕ)
      → Run s (before ++ e ∷ rest)
      → e.event ≡ event.Accept slot
      → IsTakenFor (after s before) slot e.reply

-- a connection that is taken has no flag, no response, no wait, no cause and no signal of the one
-- that was in its slot before
abbrev pub TakenConnectionsStartAfresh : Type 0
TakenConnectionsStartAfresh =
    (s : State) (slot : ℕ)
    → is_allowed s (event.Accept slot) ≡ true
    → StartsFresh (next s (event.Accept slot)) slot

-- a connection that lingers keeps its deadline and its cause as long as it lives
abbrev pub LingeringDeadlinesNeverMove : Type 0
LingeringDeadlinesNeverMove =
    (s : State) (history : List Entry) (name : ConnName) (r r' : Row)
    → IsSound s
    → Run s history
    → live_row s.rows name ≡ Some r
    → is_lingering r ≡ true
    → live_row (after s history).rows name ≡ Some r'
    → StaysLingering r r'

-- the responses of a live connection only grow, and none comes after one that says that it is the
-- last
abbrev pub ResponsesOnlyGrow : Type 0
ResponsesOnlyGrow =
    (s : State) (history : List Entry) (name : ConnName) (r r' : Row)
    → IsSound s
    → Run s history
    → live_row s.rows name ≡ Some r
    → live_row (after s history).rows name ≡ Some r'
    → OnlyGrows r.notes r'.notes

-- a row has what the history had its connection wait for
pub record RowsKeepTheirWaits : Type 0 where
  -- so has the row of each live connection, in every run from the opening state
  pub live : (slots children : ℕ) (shape : Shape) (history : List Entry) (name : ConnName) (r : Row)
      → Run (opening_state slots children shape) history
      → live_row (after (opening_state slots children shape) history).rows name ≡ Some r
      → r.waits ≡ waits_of name history
  -- one that was closed waits no more
  pub closed : (s : State) (before rest : List Entry) (e : Entry) (name : ConnName) (why : Cause)
      (how : Tail)
      → Run s (before ++ e ∷ rest)
      → e.event ≡ event.Close name why how
      → waits_of name rest ≡ []

-- each pass has a connection of its own, or none, and each one that somebody has is some pass's
pub record EachPassHasItsOwnConnection : Type 0 where
  -- so it is where a server opens: no pass has one
  pub opened : (s : State) (passes : ℕ)
      → IsOpened s
      → EachHasItsOwn s (first_row (opening_record passes))
  -- where passes make a history as they may, it stays so
  pub made : (base : State) (f : Folded) (history : List Entry)
      → EachHasItsOwn base (first_row f)
      → AreMade base f history
      → EachHasItsOwn (after base history) (λ p. row_from f p history)
  -- and where the history is folded
  pub folded : (passes : ℕ) (base : State) (f : Folded) (history : List Entry)
      (ended : List (List ℕ))
      → HasPlacesFor passes f
      → AreOfPasses passes history
      → EachHasItsOwn base (first_row f)
      → AreMade base f history
      → EachHasItsOwn (after base history) (first_row (fold_of base history ended f))
  -- where no pass has one, none is in hand
  pub nobody : (s : State) (has : ℕ → Option ConnName)
      → EachHasItsOwn s has
      → ((p : ℕ) → has p ≡ None)
      → HasNoneInHand s
  -- nor where none of so many passes has one behind the history that they made
  pub nobody_of : (passes : ℕ) (base : State) (f : Folded) (history : List Entry)
      → HasPlacesFor passes f
      → AreOfPasses passes history
      → EachHasItsOwn base (first_row f)
      → AreMade base f history
      → ((p : ℕ) → p < passes → row_from f p history ≡ None)
      → HasNoneInHand (after base history)

-- while other passes go on, a pass keeps its connection
pub record ConnectionsStayWhileOthersGoOn : Type 0 where
  -- it has the same one
  pub name : (f : Folded) (p : ℕ) (seen history : List Entry)
      → HasSeen p seen history
      → row_from f p history ≡ row_from f p seen
  -- and the row of it stays as it was
  pub row : (base : State) (f : Folded) (p : ℕ) (seen history : List Entry) (name : ConnName)
      → EachHasItsOwn base (first_row f)
      → AreMade base f history
      → HasSeen p seen history
      → row_from f p seen ≡ Some name
      → slice_get (after base history).rows name.slot
      ≡ slice_get (after base seen).rows name.slot

-- what a pass other than the listener adds leaves alone what the listener decides
pub record PassesLeaveTheRestToTheListener : Type 0 where
  -- all of that is as it was, but that lingering connections may be signalled
  pub rest : (p : ℕ) (base : State) (f : Folded) (old new : List Entry)
      → p ≢ 0
      → Adds p base f old new
      → OnlyServes (after base old) (after base new)
  -- no more slots ask for service
  pub asking : (p : ℕ) (base : State) (f : Folded) (old new : List Entry)
      → p ≢ 0
      → Adds p base f old new
      → asking_count (after base new) ≤ asking_count (after base old)
  -- and fewer once it handed a connection to the workers
  pub queued : (p : ℕ) (base : State) (f : Folded) (old new : List Entry) (name : ConnName)
      (events : List Event)
      → p ≢ 0
      → Adds p base f old new
      → map (λ e. e.event) (entries_of p new)
      ≡ map (λ e. e.event) (entries_of p old) ++ event.Queue name ∷ events
      → asking_count (after base new) < asking_count (after base old)
