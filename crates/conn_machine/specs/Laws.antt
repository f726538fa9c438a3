-- What the laws of the machine say, in words of their own.
use Rattle.std.specs.Prelude.{◌≡◌, ℕ, ◌+◌, ◌*◌, ◌-◌, ◌≤◌, Bool, true, false, ◌&&◌, ◌||◌, ◌==◌, nat_lt, List, [], ◌∷◌, ◌++◌, None, Some, slice_get, ⊤}
use Rattle.std.specs.List.{list_any}
use Rattle.mpm_base.specs.declared.conn.ConnName.{ConnName}
use Rattle.mpm_base.specs.Notes.{says_last}
use Rattle.mpm_base.specs.declared.note.Note.{Note}
use Rattle.conn_machine.specs.declared.event.Event.{Event}
use Rattle.conn_machine.specs.declared.event.Event.TheVariants as event
use Rattle.conn_machine.specs.declared.event.Reply.{Reply}
use Rattle.conn_machine.specs.declared.event.Reply.TheVariants.{Took}
use Rattle.conn_machine.specs.declared.event.Entry.{Entry}
use Rattle.conn_machine.specs.declared.state.State.{State}
use Rattle.conn_machine.specs.declared.row.Place.TheVariants.{Held}
use Rattle.conn_machine.specs.declared.row.Row.{Row}
use Rattle.conn_machine.specs.Rows.{carried_count, open_count, live_row, lives_and}
use Rattle.conn_machine.specs.Children.{child_at, is_running}
use Rattle.conn_machine.specs.Events.{count_events, is_accept, is_hold, is_queue, is_ready}
use Rattle.conn_machine.specs.Table.{next_accept}
use Rattle.conn_machine.specs.States.{idle_count, is_signalled}
use Rattle.conn_machine.specs.Runs.{after, is_name}
use Rattle.conn_machine.specs.Sound.{IsSound}

-- after each first part of the history, the whole of it among them, the state is sound
abbrev pub StaysSound : State → List Entry → Type 0
StaysSound base history =
    (before rest : List Entry) → history ≡ before ++ rest → IsSound (after base before)

-- connections are handed to workers and to the listener only where something came for them, but for three times for each
-- connection, so that a history can't be filled for nothing
pub record IsEarned (history : List Entry) : Type 0 where
  pub queues : count_events is_queue history ≤ count_events is_ready history
  pub holds : count_events is_hold history
      ≤ count_events is_ready history + 3 * count_events is_accept history

-- the connection of that name is live
abbrev pub is_alive : State → ConnName → Bool
is_alive s name = lives_and (λ r. true) s.rows name

-- the workers of the child of that number that carry nothing
abbrev pub idle_in : State → ℕ → ℕ
idle_in s k = idle_count s (k, child_at s.children k)

-- the child takes a further connection: it runs, is of the newest generation, and its open connections are below its limit
abbrev pub admits_in : State → ℕ → Bool
admits_in s k =
    is_running (child_at s.children k).phase
    && (child_at s.children k).generation == s.newest
    && nat_lt (100 * open_count s.rows k)
    (100 * (child_at s.children k).shape.threads
    + (child_at s.children k).shape.factor * idle_in s k)

-- the child takes a connection, and has most idle workers of those that do, and the lowest number of those that have as many
pub record IsChosen (s : State) (k : ℕ) : Type 0 where
  pub admits : admits_in s k ≡ true
  pub none_idler : (other : ℕ) → admits_in s other ≡ true → idle_in s other ≤ idle_in s k
  pub none_lower : (other : ℕ)
      → admits_in s other ≡ true
      → idle_in s other ≡ idle_in s k
      → k ≤ other

-- the connection was taken into the slot for the chosen child, whose generation is the newest, and so says its row
pub record IsTakenFor (s : State) (slot : ℕ) (answer : Reply) : Type 0 where
  pub name : ConnName
  pub child : ℕ
  pub row : Row
  pub replied : answer ≡ Took name child s.newest
  pub in_slot : name.slot ≡ slot
  pub chosen : IsChosen s child
  pub found : live_row (next_accept s slot).rows name ≡ Some row
  pub of_child : row.child ≡ child
  pub of_generation : row.generation ≡ s.newest

-- nothing but its deadline is left in the row of the connection that was there before
pub record IsFreshRow (r : Row) : Type 0 where
  pub held : r.place ≡ Held
  pub never_waited : r.from ≡ None
  pub not_asked : r.began ≡ None
  pub not_begun : r.mid ≡ false
  pub undecided : r.last ≡ false
  pub not_refused : r.short ≡ false
  pub in_service : r.cause ≡ None
  pub no_response : r.notes ≡ []
  pub no_wait : r.waits ≡ []

-- nor is the signal of its slot
pub record StartsFresh (s : State) (slot : ℕ) : Type 0 where
  pub row : Row
  pub there : slice_get s.rows slot ≡ Some row
  pub fresh : IsFreshRow row
  pub no_signal : is_signalled s slot ≡ false

-- the connection lingers for the cause and until the deadline that it had
pub record StaysLingering (old new : Row) : Type 0 where
  pub deadline : new.deadline ≡ old.deadline
  pub cause : new.cause ≡ old.cause

-- the event closes the connection of that name
abbrev pub closes_name : ConnName → Event → Bool
closes_name name (event.Close closed why how) = is_name closed name
closes_name name other = false

-- the connection of that name is live in the state, or one of the entries closed it
abbrev pub is_alive_or_closed : State → List Entry → ConnName → Bool
is_alive_or_closed s entries name =
    is_alive s name || list_any (λ e. closes_name name e.event) entries

-- these notes may follow, where the one before them says so much: none follows one that says that it is the last
abbrev pub NotesMayFollow : Bool → List Note → Type 0
NotesMayFollow last [] = ⊤
NotesMayFollow true (note ∷ notes) = ⊥
NotesMayFollow false (note ∷ notes) = NotesMayFollow note.last notes

-- a connection has its responses and perhaps further ones, and none after one that is the last
pub record OnlyGrows (old new : List Note) : Type 0 where
  pub more : List Note
  pub grown : new ≡ old ++ more
  pub follows : NotesMayFollow (says_last old) more
