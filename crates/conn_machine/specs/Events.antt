-- Kinds of events, and how many entries of a history have one.
use Rattle.std.specs.Prelude.{◌==◌, ℕ, Bool, true, false, ◌||◌, List, [], ◌∷◌, Option, None, Some}
use Rattle.std.specs.List.{count_by}
use Rattle.mpm_base.specs.declared.conn.Cause.{Cause}
use Rattle.mpm_base.specs.declared.conn.Cause.TheVariants as cause
use Rattle.mpm_base.specs.declared.conn.ConnName.{ConnName}
use Rattle.conn_machine.specs.declared.event.Commanded.TheVariants.{Graceful, Refused}
use Rattle.conn_machine.specs.declared.event.Event.{Event}
use Rattle.conn_machine.specs.declared.event.Event.TheVariants as event
use Rattle.conn_machine.specs.declared.event.Entry.{Entry}
use Rattle.mpm_base.specs.Cause.{cause_number}

-- a connection is taken
abbrev pub is_accept : Event → Bool
is_accept (event.Accept slot) = true
is_accept other = false

-- the listener takes a connection that waits
abbrev pub is_hold : Event → Bool
is_hold (event.Hold name) = true
is_hold other = false

-- a connection is handed to the workers of its child
abbrev pub is_queue : Event → Bool
is_queue (event.Queue name) = true
is_queue other = false

-- a response is decided
abbrev pub is_answer : Event → Bool
is_answer (event.Answer name ask) = true
is_answer other = false

-- a connection is closed
abbrev pub is_close : Event → Bool
is_close (event.Close name why how) = true
is_close other = false

-- something may have come for a slot
abbrev pub is_ready : Event → Bool
is_ready (event.Ready slot) = true
is_ready other = false

-- a child starts
abbrev pub is_start_child : Event → Bool
is_start_child (event.StartChild child) = true
is_start_child other = false

-- the moment rises
abbrev pub is_tick : Event → Bool
is_tick (event.Tick moment) = true
is_tick other = false

-- the event is of a connection, or a child is started or let go of
abbrev pub needs_child : Event → Bool
needs_child (event.Accept slot) = true
needs_child (event.Park name kind) = true
needs_child (event.Hold name) = true
needs_child (event.Queue name) = true
needs_child (event.Start name) = true
needs_child (event.Answer name ask) = true
needs_child (event.Linger name why) = true
needs_child (event.Close name why how) = true
needs_child (event.Ready slot) = false
needs_child (event.Tick moment) = false
needs_child (event.StartChild child) = true
needs_child (event.Command c) = false
needs_child (event.Retire child) = true

-- the listener alone makes events of this kind: it takes, holds and signals, lets time pass, starts and lets go of children, and commands
abbrev pub is_listeners : Event → Bool
is_listeners (event.Accept slot) = true
is_listeners (event.Park name kind) = false
is_listeners (event.Hold name) = true
is_listeners (event.Queue name) = false
is_listeners (event.Start name) = false
is_listeners (event.Answer name ask) = false
is_listeners (event.Linger name why) = false
is_listeners (event.Close name why how) = false
is_listeners (event.Ready slot) = true
is_listeners (event.Tick moment) = true
is_listeners (event.StartChild child) = true
is_listeners (event.Command c) = true
is_listeners (event.Retire child) = true

-- the connection that a pass must have for the event
abbrev pub conn_needed : Event → Option ConnName
conn_needed (event.Accept slot) = None
conn_needed (event.Park name kind) = Some name
conn_needed (event.Hold name) = None
conn_needed (event.Queue name) = None
conn_needed (event.Start name) = Some name
conn_needed (event.Answer name ask) = Some name
conn_needed (event.Linger name why) = Some name
conn_needed (event.Close name why how) = Some name
conn_needed (event.Ready slot) = None
conn_needed (event.Tick moment) = None
conn_needed (event.StartChild child) = None
conn_needed (event.Command c) = None
conn_needed (event.Retire child) = None

-- a command `graceful` was taken: a new generation begins
abbrev pub begins_generation : Event → Bool
begins_generation (event.Command (Graceful shape)) = true
begins_generation other = false

-- a command `graceful` was refused
abbrev pub is_refused_entry : Event → Bool
is_refused_entry (event.Command (Refused reason)) = true
is_refused_entry other = false

-- an order: a command `graceful`, taken or refused
abbrev pub is_order : Event → Bool
is_order e = begins_generation e || is_refused_entry e

-- the event closes a connection for the cause
abbrev pub is_close_for : Cause → Event → Bool
is_close_for for (event.Close name why how) = cause_number why == cause_number for
is_close_for for other = false

-- the causes, in order
abbrev pub causes : List Cause
causes =
    cause.ClientDone
    ∷ cause.LastSent
    ∷ cause.KeepAliveLate
    ∷ cause.ReadLate
    ∷ cause.WriteLate
    ∷ cause.Retiring
    ∷ cause.LinkFailed
    ∷ cause.Stopped
    ∷ cause.NoMemory
    ∷ []

-- how many entries have such an event
abbrev pub count_events : (Event → Bool) → List Entry → ℕ
count_events test history = count_by (λ e. test e.event) history
