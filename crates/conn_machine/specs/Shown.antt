-- What a status page shows of a state: a letter for each worker, by filters of the rows, and counts of letters and of rows. The letters and
-- the numbers, and when each stands, are this server's own.
use Rattle.std.specs.Prelude.{◌==◌, ℕ, ◌||◌, ◌&&◌, Bool, false, List, count_by, flat_map, map, if◌then◌else◌, Option, None, Some}
use Rattle.std.specs.List.{enumerate_from, list_any, range_with_len}
use Rattle.mpm_base.specs.declared.conn.Kind.TheVariants.{KeepAlive, Writing}
use Rattle.mpm_base.specs.declared.note.Snapshot.{Snapshot}
use Rattle.conn_machine.specs.declared.row.Phase.{Phase}
use Rattle.conn_machine.specs.declared.row.Phase.TheVariants.{Read, Write, Close}
use Rattle.conn_machine.specs.declared.row.Place.{Place}
use Rattle.conn_machine.specs.declared.row.Place.TheVariants.{Vacant, Spent, Held, Parked, Queued, Working}
use Rattle.conn_machine.specs.declared.row.Row.{Row}
use Rattle.conn_machine.specs.declared.child.Child.{Child}
use Rattle.conn_machine.specs.declared.child.ChildPhase.{ChildPhase}
use Rattle.conn_machine.specs.declared.child.ChildPhase.TheVariants.{Empty, Running, Stopping}
use Rattle.conn_machine.specs.declared.state.State.{State}
use Rattle.conn_machine.specs.declared.totals.Totals.{Totals}
use Rattle.conn_machine.specs.Children.{is_empty}
use Rattle.conn_machine.specs.Rows.{is_parked_lingering, is_live, is_parked_as, is_served_in}

-- ## What a worker does

-- a number for each phase
abbrev pub phase_number : Phase → ℕ
phase_number Read = 0
phase_number Write = 1
phase_number Close = 2

-- the worker of that cell serves what is at the place, in this phase
abbrev pub is_in_cell_as : Phase → ℕ → Place → Bool
is_in_cell_as phase c Vacant = false
is_in_cell_as phase c Spent = false
is_in_cell_as phase c Held = false
is_in_cell_as phase c (Parked kind) = false
is_in_cell_as phase c Queued = false
is_in_cell_as phase c (Working cell own) = cell == c && phase_number own == phase_number phase

-- the worker of that cell of the child serves the row, in this phase
abbrev pub is_served_as : Phase → ℕ → ℕ → Row → Bool
is_served_as phase k c r = r.child == k && is_in_cell_as phase c r.place

-- the phase in which the worker of that cell of the child serves a row; none where it serves none
abbrev pub phase_in : List Row → ℕ → ℕ → Option Phase
phase_in rows k c =
    if list_any (is_served_as Read k c) rows then Some Read
    else (if list_any (is_served_as Write k c) rows then Some Write
    else (if list_any (is_served_as Close k c) rows then Some Close else None))

-- ## Letters

-- R, W and C: a worker of a child that takes connections reads a request, sends a response, or sends the last one; an underscore: it
-- serves none
abbrev pub running_letter : Option Phase → ℕ
running_letter (Some Read) = 82
running_letter (Some Write) = 87
running_letter (Some Close) = 67
running_letter None = 95

-- G: a worker of a child that stops serves a connection
abbrev pub finishing : ℕ
finishing = 71

-- a dot: there is no worker, or it is given none
abbrev pub no_worker : ℕ
no_worker = 46

-- the letter of a worker of a child that stops
abbrev pub stopping_letter : Bool → ℕ
stopping_letter serves = if serves then finishing else no_worker

-- how many letters a child has: one for each of its workers, and where it isn't there for each that it would get
abbrev pub cells_of : State → Child → ℕ
cells_of s child = if is_empty child.phase then s.shape.threads else child.shape.threads

-- the letter of a cell of the child of that number, which is in this phase
abbrev pub letter_in : ChildPhase → State → ℕ → ℕ → ℕ
letter_in Empty s k c = no_worker
letter_in Running s k c = running_letter (phase_in s.rows k c)
letter_in Stopping s k c = stopping_letter (list_any (is_served_in k c) s.rows)

-- the letters of the child of that number
abbrev pub child_letters : State → ℕ × Child → List ℕ
child_letters s p = map (letter_in p.1.phase s p.0) (range_with_len 0 (cells_of s p.1))

-- the letters of all cells, child by child
abbrev pub letters : State → List ℕ
letters s = flat_map (child_letters s) (enumerate_from 0 s.children)

-- a worker serves a connection
abbrev pub is_busy_letter : ℕ → Bool
is_busy_letter l = l == 82 || l == 87 || l == 67 || l == finishing

-- a worker serves none, and may be given one
abbrev pub is_idle_letter : ℕ → Bool
is_idle_letter l = l == 95

-- ## The page

-- what a status page shows of the state
unfoldable pub snapshot_of : State → Snapshot
snapshot_of s =
    record {
      generation = s.newest;
      busy = count_by is_busy_letter (letters s);
      idle = count_by is_idle_letter (letters s);
      total = count_by is_live s.rows;
      writing = count_by (λ (r : Row). is_parked_as Writing r.place) s.rows;
      keep_alive = count_by (λ (r : Row). is_parked_as KeepAlive r.place) s.rows;
      closing = count_by (λ (r : Row). is_parked_lingering r.place) s.rows;
      letters = letters s;
    }

-- the numbers of that page
unfoldable pub totals_of : State → Totals
totals_of s =
    record {
      generation = (snapshot_of s).generation;
      busy = (snapshot_of s).busy;
      idle = (snapshot_of s).idle;
      total = (snapshot_of s).total;
      writing = (snapshot_of s).writing;
      keep_alive = (snapshot_of s).keep_alive;
      closing = (snapshot_of s).closing;
    }
