-- Connections by their arrival: the number that each has by the order in which they were taken, from 0.
use Rattle.std.specs.Prelude.{◌==◌, ℕ, ◌+◌, Bool, ◌&&◌, List, [], ◌∷◌, ◌++◌, count_by, Option, None, Some}
use Rattle.conn_machine.specs.declared.row.Row.{Row}
use Rattle.conn_machine.specs.declared.event.Event.{Event}
use Rattle.conn_machine.specs.declared.event.Event.TheVariants as event
use Rattle.conn_machine.specs.declared.event.Entry.{Entry}
use Rattle.conn_machine.specs.declared.state.State.{State}
use Rattle.conn_machine.specs.Rows.{is_live, live_row}
use Rattle.conn_machine.specs.Table.{next}
use Rattle.conn_machine.specs.Runs.{after}

-- the arrival of the row, where there is one
abbrev pub arrival_in : Option Row → List ℕ
arrival_in None = []
arrival_in (Some r) = r.arrival ∷ []

-- the arrival of the connection that the event closes: that of the live row of its name
abbrev pub closed_arrival : State → Event → List ℕ
closed_arrival s (event.Accept slot) = []
closed_arrival s (event.Park name kind) = []
closed_arrival s (event.Hold name) = []
closed_arrival s (event.Queue name) = []
closed_arrival s (event.Start name) = []
closed_arrival s (event.Answer name ask) = []
closed_arrival s (event.Linger name cause) = []
closed_arrival s (event.Close name cause tail) = arrival_in (live_row s.rows name)
closed_arrival s (event.Ready slot) = []
closed_arrival s (event.Tick m) = []
closed_arrival s (event.StartChild k) = []
closed_arrival s (event.Command c) = []
closed_arrival s (event.Retire k) = []

-- the arrivals of the connections that the entries close, from the state on, in order
abbrev pub closed_arrivals : State → List Entry → List ℕ
closed_arrivals s [] = []
closed_arrivals s (e ∷ entries) =
    closed_arrival s e.event ++ closed_arrivals (next s e.event) entries

-- the row is that of a live connection with that arrival
abbrev pub has_arrival : ℕ → Row → Bool
has_arrival arrival r = is_live r && r.arrival == arrival

-- how many connections with that arrival were closed or are live
abbrev pub arrival_count : State → List Entry → ℕ → ℕ
arrival_count s history arrival =
    count_by (λ n. n == arrival) (closed_arrivals s history)
    + count_by (has_arrival arrival) (after s history).rows
