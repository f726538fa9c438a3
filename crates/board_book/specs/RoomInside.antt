-- The entries that a history must still find room for, so that a connection in hand can always be closed and recorded,
-- and the server always stopped. A call that needs memory takes the room for what must follow it.
-- Why it is so stands in docs/DECISIONS.md: 51, Room for what must follow.
use Rattle.std.specs.Prelude.{ℕ, ◌+◌, ◌*◌, Bool, true, false, count_by, length, sum_by, if◌then◌else◌}
use Rattle.conn_machine.specs.declared.row.Place.{Place}
use Rattle.conn_machine.specs.declared.row.Place.TheVariants.{Vacant, Spent, Held, Parked, Queued, Working}
use Rattle.conn_machine.specs.declared.row.Row.{Row}
use Rattle.conn_machine.specs.declared.child.Child.{Child}
use Rattle.conn_machine.specs.declared.event.Commanded.TheVariants.{Graceful, Refused, GracefulStop, Stop}
use Rattle.conn_machine.specs.declared.event.Event.{Event}
use Rattle.conn_machine.specs.declared.event.Event.TheVariants as event
use Rattle.conn_machine.specs.declared.state.State.{State}
use Rattle.conn_machine.specs.Rows.{is_live, is_lingering}
use Rattle.conn_machine.specs.Children.{is_empty}
use Rattle.conn_machine.specs.States.{is_halted}

-- a connection may have to be started, lingered, held and closed; what of it is left, by its place
abbrev pub place_owes : Place → Bool → ℕ
place_owes Vacant lingers = 0
place_owes Spent lingers = 0
place_owes Held lingers = if lingers then 1 else 3
place_owes (Parked kind) lingers = if lingers then 2 else 4
place_owes Queued lingers = 4
place_owes (Working cell phase) lingers = 3

abbrev pub row_owes : Row → ℕ
row_owes r = place_owes r.place (is_lingering r)

-- a child has to be retired
abbrev pub child_owes : Child → ℕ
child_owes c = if is_empty c.phase then 0 else 1

-- what the state's history must still find room for
abbrev pub owed_entries : State → ℕ
owed_entries s =
    sum_by row_owes s.rows + sum_by child_owes s.children + (if is_halted s.going then 0 else 1)

-- room for an event, which leaves at most one connection more, and for what its state's history must still find room for
abbrev pub room_with_event : State → ℕ
room_with_event s = 4 * (count_by is_live s.rows + 1) + length s.children + 2

-- the event finds its room taken before: it can't be refused
abbrev pub is_sure : Event → Bool
is_sure (event.Accept slot) = false
is_sure (event.Park name kind) = false
is_sure (event.Hold name) = true
is_sure (event.Queue name) = false
is_sure (event.Start name) = true
is_sure (event.Answer name ask) = false
is_sure (event.Linger name why) = true
is_sure (event.Close name why how) = true
is_sure (event.Ready slot) = false
is_sure (event.Tick m) = false
is_sure (event.StartChild k) = false
is_sure (event.Command (Graceful shape)) = false
is_sure (event.Command (Refused reason)) = false
is_sure (event.Command (GracefulStop until)) = false
is_sure (event.Command (Stop why)) = true
is_sure (event.Retire k) = true
