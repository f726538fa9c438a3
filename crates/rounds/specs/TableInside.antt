-- What the parts of a round find in the table: what it opens with, what was taken, and what is left to be done.
use Rattle.board_book.specs.Book.{SeenBook}
use Rattle.conn_machine.specs.Made.{IsOpened}
use Rattle.conn_machine.specs.Rows.{is_held, is_lingering, is_parked, live_row}
use Rattle.conn_machine.specs.States.{is_over, is_overdue, is_signalled, is_staffed}
use Rattle.conn_machine.specs.declared.row.Row.{Row}
use Rattle.conn_machine.specs.declared.state.State.{State}
use Rattle.mpm_base.specs.declared.conn.ConnName.{ConnName}
use Rattle.mpm_base.specs.Moment.{greatest_moment}
use Rattle.board_book.specs.AtRest.{IsAtRest}
use Rattle.std.specs.List.{list_any}
use Rattle.std.specs.Prelude.{◌≡◌, ◌<◌, ℕ, min, ◌↔◌, Bool, true, false, [], None, Some, slice_get, length}

-- how many children a server that opens in the state starts at first
abbrev pub asked_children : State → ℕ
asked_children s = min s.shape.target (length s.children)

-- nothing was done yet, in a state in which a server opens
pub record IsOpening (b : SeenBook) : Type 0 where
  pub opened : IsOpened b.base
  pub none : b.history ≡ []

-- the listener holds the connection of that name, child, generation and arrival, which it has just taken
pub record HasTaken (s : State) (name : ConnName) (child generation arrival : ℕ) : Type 0 where
  pub row : Row
  pub found : live_row s.rows name ≡ Some row
  pub held : is_held row.place ≡ true
  pub fresh : row.from ≡ None
  pub serves : is_lingering row ≡ false
  pub child_is : row.child ≡ child
  pub generation_is : row.generation ≡ generation
  pub arrival_is : row.arrival ≡ arrival
  pub notes : row.notes ≡ []
  pub waits : row.waits ≡ []

-- no connection is late
abbrev pub NoneOverdue : State → Type 0
NoneOverdue s = list_any (is_overdue s.moment) s.rows ≡ false

-- no connection waits
abbrev pub NoneParked : State → Type 0
NoneParked s = (slot : ℕ) (r : Row) → slice_get s.rows slot ≡ Some r → is_parked r.place ≡ false

-- the next wait may let time pass exactly where nothing is left to be done
abbrev pub IsRestful : Bool → State → Type 0
IsRestful quiet s = (quiet ≡ true) ↔ IsAtRest s

-- each connection that waits for service, and for which something came, has a deadline that is later than the moment
abbrev pub NoneDueLate : State → Type 0
NoneDueLate s =
    (slot : ℕ) (r : Row) → slice_get s.rows slot ≡ Some r → is_signalled s slot ≡ true → is_parked r.place ≡ true → is_lingering r ≡ false
    → s.moment < r.deadline

-- between two rounds: the time of a graceful stop is over only where moments end, and some child isn't gone
pub record StandsInTime (s : State) : Type 0 where
  pub within : is_over s.moment s.going ≡ true → s.moment ≡ greatest_moment
  pub staffed : is_staffed s ≡ true
