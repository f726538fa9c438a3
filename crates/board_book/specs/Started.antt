-- Which children were started before all else.
use Rattle.std.specs.Prelude.{ℕ, List, ◌≡◌, ◌++◌, map}
use Rattle.std.specs.List.{range_with_len}
use Rattle.conn_machine.specs.declared.event.Entry.{Entry}
use Rattle.conn_machine.specs.declared.event.Event.{Event}
use Rattle.conn_machine.specs.declared.event.Event.TheVariants as event

-- the starts of the first so many children, in order of number
abbrev pub starts_of : ℕ → List Event
starts_of count = map event.StartChild (range_with_len 0 count)

-- the first entries of the history are these starts
abbrev pub BeginsWithStarts : ℕ → List Entry → Type 0
BeginsWithStarts count history = (rest : List Event) × (map (λ e. e.event) history ≡ starts_of count ++ rest)
