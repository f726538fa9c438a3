-- What a pass did: the events that it added, and the connection that it has then.
-- Why it is so stands in docs/DECISIONS.md: 71, What the listener and the service say.
use Rattle.std.specs.Prelude.{◌≡◌, ◌≢◌, ℕ, List, [], ◌∷◌, map, ◌++◌, Option}
use Rattle.mpm_base.specs.declared.conn.ConnName.{ConnName}
use Rattle.conn_machine.specs.declared.event.Event.{Event}
use Rattle.conn_machine.specs.declared.event.Entry.{Entry}
use Rattle.conn_machine.specs.Runs.{entries_of}
use Rattle.board_book.specs.Book.{SeenBook, book_with_entry, row_in, AddsOnly}

-- the events of the entries that the pass made, in order
abbrev pub events_of : ℕ → List Entry → List Event
events_of who history = map (λ e. e.event) (entries_of who history)

-- all that was added are entries that the pass may make, of these events in this order, and it has this connection then, or
-- none
pub record Acts (who : ℕ) (events : List Event) (has : Option ConnName)
    (old new : SeenBook) : Type 0 where
  pub base : new.base ≡ old.base
  pub folded : new.folded ≡ old.folded
  pub passes : new.passes ≡ old.passes
  pub entries : AddsOnly who old new
  pub made : events_of who new.history ≡ events_of who old.history ++ events
  pub row : row_in who new ≡ has

-- a pass that recorded nothing, or one event, did that, and what it did in two steps it did; every other pass has made what it
-- had made
pub record ActsInSteps : Type 0 where
  pub none : (who : ℕ) (has : Option ConnName) (b : SeenBook)
      → row_in who b ≡ has
      → Acts who [] has b b
  pub one : (who : ℕ) (e : Event) (has : Option ConnName) (old new : SeenBook)
      → new ≡ book_with_entry who e old
      → AddsOnly who old new
      → row_in who new ≡ has
      → Acts who (e ∷ []) has old new
  pub more : (who : ℕ) (first second : List Event) (had has : Option ConnName) (a b c : SeenBook)
      → Acts who first had a b
      → Acts who second has b c
      → Acts who (first ++ second) has a c
  pub others : (who other : ℕ) (events : List Event) (has : Option ConnName) (old new : SeenBook)
      → Acts who events has old new
      → other ≢ who
      → entries_of other new.history ≡ entries_of other old.history
