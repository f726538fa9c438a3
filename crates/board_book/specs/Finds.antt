-- What the tests of a board look for in its state.
use Rattle.std.specs.Prelude.{◌≡◌, ◌==◌, ℕ, Bool, true, false, not, ◌&&◌, List, [], ◌∷◌, ◌++◌, length, map, filter, find, min, nat_lt, Option, None, Some, option_map, slice_get, if◌then◌else◌}
use Rattle.std.specs.List.{list_any, range_with_len, reduce}
use Rattle.std.specs.Option.{option_and_then}
use Rattle.mpm_base.specs.declared.conn.ConnName.{ConnName}
use Rattle.mpm_base.specs.declared.conn.Cause.{Cause}
use Rattle.mpm_base.specs.declared.conn.Kind.{Kind}
use Rattle.mpm_base.specs.declared.conn.Kind.TheVariants.{KeepAlive}
use Rattle.conn_machine.specs.declared.row.Place.{Place}
use Rattle.conn_machine.specs.declared.row.Place.TheVariants.{Vacant, Spent, Held, Parked, Queued, Working}
use Rattle.conn_machine.specs.declared.row.Row.{Row}
use Rattle.conn_machine.specs.declared.state.Going.{Going}
use Rattle.conn_machine.specs.declared.state.Going.TheVariants.{Serving, Ending, Halted}
use Rattle.conn_machine.specs.declared.state.State.{State}
use Rattle.conn_machine.specs.Rows.{is_vacant, is_parked, is_with_a_pass, is_from, is_lingering, live_row, lives_and}
use Rattle.conn_machine.specs.Children.{is_empty, is_stopping, running_count}
use Rattle.conn_machine.specs.States.{is_serving, is_signalled, is_overdue, child_of, pick_child}
use Rattle.conn_machine.specs.Table.{child_passes, may_be_queued, may_retire}

-- the child that the next connection goes to, while the server takes connections and a slot is vacant
abbrev pub acceptable : State → Option ℕ
acceptable s =
    if is_serving s.going && list_any (λ r. is_vacant r.place) s.rows then pick_child s else None

-- the lowest child that is gone, while the server takes connections and fewer children run than should
abbrev pub startable : State → Option ℕ
startable s =
    if is_serving s.going && nat_lt (running_count s.children) s.shape.target
    then find (child_passes (λ c. is_empty c.phase) s) (range_with_len 0 (length s.children))
    else None

-- the number is that of a child that may be let go of, or there is none
abbrev pub FindsRetirable : State → Option ℕ → Type 0
FindsRetirable s None = (k : ℕ) → may_retire s k ≡ false
FindsRetirable s (Some k) = may_retire s k ≡ true

-- the name is that of a live connection whose row passes the test, or no row passes it
abbrev pub FindsRow : (ℕ → Row → Bool) → State → Option ConnName → Type 0
FindsRow test s None = (slot : ℕ) (r : Row) → slice_get s.rows slot ≡ Some r → test slot r ≡ false
FindsRow test s (Some name) = lives_and (test name.slot) s.rows name ≡ true

-- the row waits and is late
abbrev pub is_late : State → ℕ → Row → Bool
is_late s slot r = is_overdue s.moment r

-- something may have come for the row, which waits for service, and a worker of its child is free
abbrev pub is_due : State → ℕ → Row → Bool
is_due s slot r = is_signalled s slot && may_be_queued s r

-- something may have come for the row, which waits for service, and it is of that child
abbrev pub is_due_of : ℕ → State → ℕ → Row → Bool
is_due_of k s slot r =
    r.child == k && is_signalled s slot && is_parked r.place && not (is_lingering r)

-- the row waits for a further request, for which nothing came, and its child stops
abbrev pub is_let_go : State → ℕ → Row → Bool
is_let_go s slot r =
    is_parked r.place
    && is_from KeepAlive r
    && is_stopping (child_of s r).phase
    && not (is_signalled s slot)

-- the row waits and lingers, and something may have come for it
abbrev pub has_to_be_drained : State → ℕ → Row → Bool
has_to_be_drained s slot r = is_parked r.place && is_lingering r && is_signalled s slot

-- the row waits
abbrev pub is_waiting : ℕ → Row → Bool
is_waiting slot r = is_parked r.place

-- what a row waits for
abbrev pub kind_of : Place → Option Kind
kind_of Vacant = None
kind_of Spent = None
kind_of Held = None
kind_of (Parked kind) = Some kind
kind_of Queued = None
kind_of (Working cell phase) = None

-- what the connection of that name waits for, where it lives and waits
abbrev pub waits_for : State → ConnName → Option Kind
waits_for s name = option_and_then (λ r. kind_of r.place) (live_row s.rows name)

-- why the service of the connection of that name ended, where it lives and lingers
abbrev pub cause_of : State → ConnName → Option Cause
cause_of s name = option_and_then (λ r. r.cause) (live_row s.rows name)

-- the moment at which the server stops, where it ends at one
abbrev pub ending_moments : Going → List ℕ
ending_moments Serving = []
ending_moments (Ending None) = []
ending_moments (Ending (Some until)) = until ∷ []
ending_moments (Halted why) = []

-- the deadlines of the rows that wait
abbrev pub waiting_deadlines : List Row → List ℕ
waiting_deadlines rows = map (λ r. r.deadline) (filter (λ r. is_parked r.place) rows)

-- no row that waits has an earlier deadline than the live row of that name
abbrev pub IsFirstDue : State → ConnName → Type 0
IsFirstDue s name =
    option_map (λ r. r.deadline) (live_row s.rows name) ≡ reduce min (waiting_deadlines s.rows)

-- the least deadline of a row that waits, the moment at which the server stops among them
abbrev pub next_deadline_of : State → Option ℕ
next_deadline_of s = reduce min (waiting_deadlines s.rows ++ ending_moments s.going)

-- no pass has a row
abbrev pub is_quiet : State → Bool
is_quiet s = not (list_any (λ r. is_with_a_pass r.place) s.rows)
