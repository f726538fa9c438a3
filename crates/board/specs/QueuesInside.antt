-- What the timeout queues of a board have of its rows.
use Rattle.std.specs.Prelude.{List, map, Option, None, Some}
use Rattle.std.specs.Option.{option_and_then}
use Rattle.mpm_base.specs.declared.conn.ConnName.{ConnName}
use Rattle.conn_machine.specs.declared.row.Place.{Place}
use Rattle.conn_machine.specs.declared.row.Place.TheVariants.{Vacant, Spent, Held, Parked, Queued, Working}
use Rattle.conn_machine.specs.declared.row.Row.{Row}
use Rattle.conn_machine.specs.Rows.{live_row}
use Rattle.timeout_queues.specs.Waiting.{ParkedName}

-- what is parked of a row at that place: its life, what it waits for, and until when
abbrev pub waits_at : Place → Row → Option ParkedName
waits_at Vacant r = None
waits_at Spent r = None
waits_at Held r = None
waits_at (Parked kind) r = Some (record { life = r.life; kind = kind; deadline = r.deadline })
waits_at Queued r = None
waits_at (Working cell phase) r = None

-- what is parked of a row
abbrev pub waits_in : Row → Option ParkedName
waits_in r = waits_at r.place r

-- the queues have each row that waits, and no other
abbrev pub queues_of : List Row → List (Option ParkedName)
queues_of rows = map waits_in rows

-- what is parked under a name
abbrev pub waits_under : List Row → ConnName → Option ParkedName
waits_under rows name = option_and_then waits_in (live_row rows name)
