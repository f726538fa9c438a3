-- The rows of the table: what is said of one, how many of a child's are so and so, and a change of one.
use Rattle.std.specs.Prelude.{◌==◌, ℕ, Bool, true, false, not, ◌&&◌, ◌||◌, List, count_by, length, if◌then◌else◌, is_some, slice_get, Option, None, Some, unwrap_or, find}
use Rattle.std.specs.Option.{option_map_or}
use Rattle.std.specs.List.{list_any, range_with_len}
use Rattle.mpm_base.specs.declared.conn.ConnName.{ConnName}
use Rattle.mpm_base.specs.declared.conn.Kind.{Kind}
use Rattle.mpm_base.specs.declared.conn.Kind.TheVariants.{Reading, KeepAlive, Writing, Linger, ShortLinger}
use Rattle.conn_machine.specs.declared.row.Owner.{Owner}
use Rattle.conn_machine.specs.declared.row.Owner.TheVariants as owner
use Rattle.conn_machine.specs.declared.row.Phase.{Phase}
use Rattle.conn_machine.specs.declared.row.Place.{Place}
use Rattle.conn_machine.specs.declared.row.Place.TheVariants.{Vacant, Spent, Held, Parked, Queued, Working}
use Rattle.conn_machine.specs.declared.row.Row.{Row}

-- ## Places

-- the place has no connection, and may have one
abbrev pub is_vacant : Place → Bool
is_vacant Vacant = true
is_vacant Spent = false
is_vacant Held = false
is_vacant (Parked kind) = false
is_vacant Queued = false
is_vacant (Working cell phase) = false

-- no connection is there
abbrev pub is_unused : Place → Bool
is_unused Vacant = true
is_unused Spent = true
is_unused Held = false
is_unused (Parked kind) = false
is_unused Queued = false
is_unused (Working cell phase) = false

-- the listener has the connection of the place
abbrev pub is_held : Place → Bool
is_held Vacant = false
is_held Spent = false
is_held Held = true
is_held (Parked kind) = false
is_held Queued = false
is_held (Working cell phase) = false

-- the connection of the place waits, for whatever
abbrev pub is_parked : Place → Bool
is_parked Vacant = false
is_parked Spent = false
is_parked Held = false
is_parked (Parked kind) = true
is_parked Queued = false
is_parked (Working cell phase) = false

-- the connection of the place is on its way to a worker
abbrev pub is_queued : Place → Bool
is_queued Vacant = false
is_queued Spent = false
is_queued Held = false
is_queued (Parked kind) = false
is_queued Queued = true
is_queued (Working cell phase) = false

-- a worker serves the connection of the place
abbrev pub is_working : Place → Bool
is_working Vacant = false
is_working Spent = false
is_working Held = false
is_working (Parked kind) = false
is_working Queued = false
is_working (Working cell phase) = true

-- a worker has the connection of the place, or will
abbrev pub is_carried_at : Place → Bool
is_carried_at place = is_queued place || is_working place

-- a pass has the connection of the place: the listener holds it, or a worker has it, or will
abbrev pub is_with_a_pass : Place → Bool
is_with_a_pass place = is_held place || is_carried_at place

-- the worker of that cell serves it
abbrev pub is_in_cell : ℕ → Place → Bool
is_in_cell c Vacant = false
is_in_cell c Spent = false
is_in_cell c Held = false
is_in_cell c (Parked kind) = false
is_in_cell c Queued = false
is_in_cell c (Working cell phase) = cell == c

-- the cell stays, and the worker goes on to this phase
abbrev pub in_phase : Phase → Place → Place
in_phase next Vacant = Vacant
in_phase next Spent = Spent
in_phase next Held = Held
in_phase next (Parked kind) = Parked kind
in_phase next Queued = Queued
in_phase next (Working cell phase) = Working cell next

-- ## What a row waited for

-- a connection may linger so
abbrev pub is_linger_kind : Kind → Bool
is_linger_kind Reading = false
is_linger_kind KeepAlive = false
is_linger_kind Writing = false
is_linger_kind Linger = true
is_linger_kind ShortLinger = true

-- a number for each kind
abbrev pub kind_number : Kind → ℕ
kind_number Reading = 0
kind_number KeepAlive = 1
kind_number Writing = 2
kind_number Linger = 3
kind_number ShortLinger = 4

-- the connection of the place waits for this
abbrev pub is_parked_as : Kind → Place → Bool
is_parked_as kind Vacant = false
is_parked_as kind Spent = false
is_parked_as kind Held = false
is_parked_as kind (Parked own) = kind_number own == kind_number kind
is_parked_as kind Queued = false
is_parked_as kind (Working cell phase) = false

-- the connection of the place waits, and lingers
abbrev pub is_parked_lingering : Place → Bool
is_parked_lingering place = is_parked_as Linger place || is_parked_as ShortLinger place

-- the row waited for this last
abbrev pub is_from : Kind → Row → Bool
is_from kind r = option_map_or (λ k. kind_number k == kind_number kind) r.from false

-- ## Rows

-- a connection is there
abbrev pub is_live : Row → Bool
is_live r = not (is_unused r.place)

-- its service ended, and it is being closed
abbrev pub is_lingering : Row → Bool
is_lingering r = is_some r.cause

-- who has what is at a place: a queue or a worker of its child, a queue of the listener's, the listener, or nobody
abbrev pub owner_in : ℕ → Place → Option Owner
owner_in k Vacant = None
owner_in k Spent = None
owner_in k Held = Some owner.Listener
owner_in k (Parked kind) = Some (owner.TimeoutQueue kind)
owner_in k Queued = Some (owner.DescriptorQueue k)
owner_in k (Working cell phase) = Some (owner.Worker k cell)

-- who has the connection
abbrev pub owner_of : Row → Option Owner
owner_of r = owner_in r.child r.place

-- there is a response
abbrev pub has_note : Row → Bool
has_note r = not (length r.notes == 0)

-- the row of the slot, where there is one, passes the test
abbrev pub row_passes : (Row → Bool) → List Row → ℕ → Bool
row_passes test rows slot = option_map_or test (slice_get rows slot) false

-- the row is live, with the life of that name
abbrev pub is_live_as : ConnName → Row → Bool
is_live_as name r = is_live r && r.life == name.life

-- the row, where it passes the test
abbrev pub row_where : (Row → Bool) → Option Row → Option Row
row_where test None = None
row_where test (Some r) = if test r then Some r else None

-- the row of the connection of that name, where it lives
abbrev pub live_row : List Row → ConnName → Option Row
live_row rows name = row_where (is_live_as name) (slice_get rows name.slot)

-- the connection of that name lives, and its row passes the test
abbrev pub lives_and : (Row → Bool) → List Row → ConnName → Bool
lives_and test rows name = option_map_or test (live_row rows name) false

-- ## Counts

-- a worker of the child has the row, or will
abbrev pub is_carried_by : ℕ → Row → Bool
is_carried_by k r = r.child == k && (is_queued r.place || is_working r.place)

-- how many rows the workers of the child carry
abbrev pub carried_count : List Row → ℕ → ℕ
carried_count rows k = count_by (is_carried_by k) rows

-- an open connection of the child: a lingering one isn't
abbrev pub is_open_in : ℕ → Row → Bool
is_open_in k r = r.child == k && is_live r && not (is_lingering r)

-- how many open connections the child has
abbrev pub open_count : List Row → ℕ → ℕ
open_count rows k = count_by (is_open_in k) rows

-- a connection of the child
abbrev pub is_live_in : ℕ → Row → Bool
is_live_in k r = r.child == k && is_live r

-- a worker of the child serves the row
abbrev pub is_working_in : ℕ → Row → Bool
is_working_in k r = r.child == k && is_working r.place

-- the worker of that cell of the child serves the row
abbrev pub is_served_in : ℕ → ℕ → Row → Bool
is_served_in k c r = r.child == k && is_in_cell c r.place

-- no worker of that cell of the child serves
abbrev pub is_free_cell : List Row → ℕ → ℕ → Bool
is_free_cell rows k c = not (list_any (is_served_in k c) rows)

-- the lowest free cell of the child below the number, or that number where none is free
abbrev pub lowest_free_cell : List Row → ℕ → ℕ → ℕ
lowest_free_cell rows k threads =
    unwrap_or (find (is_free_cell rows k) (range_with_len 0 threads)) threads
