-- What a history had a connection wait for.
use Rattle.std.specs.Prelude.{List, [], ◌∷◌, if◌then◌else◌}
use Rattle.std.specs.List.{flat_map}
use Rattle.mpm_base.specs.declared.conn.ConnName.{ConnName}
use Rattle.mpm_base.specs.declared.conn.Kind.{Kind}
use Rattle.conn_machine.specs.declared.event.Event.{Event}
use Rattle.conn_machine.specs.declared.event.Event.TheVariants as event
use Rattle.conn_machine.specs.declared.event.Entry.{Entry}
use Rattle.conn_machine.specs.Runs.{is_name}

-- for what the event has the connection of that name wait, where it does
abbrev pub waits_in : ConnName → Event → List Kind
waits_in name (event.Accept slot) = []
waits_in name (event.Park other kind) = if is_name name other then kind ∷ [] else []
waits_in name (event.Hold other) = []
waits_in name (event.Queue other) = []
waits_in name (event.Start other) = []
waits_in name (event.Answer other ask) = []
waits_in name (event.Linger other cause) = []
waits_in name (event.Close other cause tail) = []
waits_in name (event.Ready slot) = []
waits_in name (event.Tick m) = []
waits_in name (event.StartChild k) = []
waits_in name (event.Command c) = []
waits_in name (event.Retire k) = []

-- for what the history had it wait, in order
abbrev pub waits_of : ConnName → List Entry → List Kind
waits_of name history = flat_map (λ e. waits_in name e.event) history
