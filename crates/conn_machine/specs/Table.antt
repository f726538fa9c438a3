-- The event table: which events a state allows, and what each does and replies. Where nothing else is said, all else
-- stays and the reply is Done. An event that names a connection needs its row live with that life.
-- Why it is so stands in docs/DECISIONS.md: 37, The event table is whole from the start; 38, Park keeps `mid` of a lingering row; a
-- deadline is cut to the greatest moment; 105, The time of a whole request; 39, What a graceful stop and a closing ask of their callers;
-- 43, A page is made before its entry.
use Rattle.std.specs.Prelude.{◌==◌, ℕ, ◌+◌, ◌/◌, Bool, true, false, not, ◌&&◌, ◌||◌, List, [], ◌∷◌, ◌++◌, length, nat_lt, nat_le, min, if◌then◌else◌, Option, None, Some, is_some, is_none, option_map, slice_get, slice_set}
use Rattle.std.specs.Option.{option_map_or, unwrap_or}
use Rattle.std.specs.List.{list_any}
use Rattle.mpm_base.specs.Cause.{cause_number}
use Rattle.mpm_base.specs.Count.{next_count}
use Rattle.mpm_base.specs.declared.conn.ConnName.{ConnName}
use Rattle.mpm_base.specs.declared.conn.Kind.{Kind}
use Rattle.mpm_base.specs.declared.conn.Kind.TheVariants.{Reading, KeepAlive, Writing, Linger, ShortLinger}
use Rattle.mpm_base.specs.declared.conn.Cause.{Cause}
use Rattle.mpm_base.specs.declared.conn.Cause.TheVariants as cause
use Rattle.mpm_base.specs.declared.conn.Tail.{Tail}
use Rattle.mpm_base.specs.declared.conn.Tail.TheVariants as tail
use Rattle.mpm_base.specs.declared.conn.Ask.{Ask}
use Rattle.mpm_base.specs.declared.note.Note.{Note}
use Rattle.mpm_base.specs.declared.note.Snapshot.{Snapshot}
use Rattle.conn_machine.specs.declared.row.Phase.{Phase}
use Rattle.conn_machine.specs.declared.row.Phase.TheVariants as phase
use Rattle.conn_machine.specs.declared.row.Place.TheVariants.{Vacant, Spent, Held, Parked, Queued, Working}
use Rattle.conn_machine.specs.declared.row.Row.{Row}
use Rattle.conn_machine.specs.declared.child.Child.{Child}
use Rattle.conn_machine.specs.declared.event.Why.{Why}
use Rattle.conn_machine.specs.declared.event.Why.TheVariants as why
use Rattle.conn_machine.specs.declared.event.Commanded.{Commanded}
use Rattle.conn_machine.specs.declared.event.Commanded.TheVariants.{Graceful, Refused, GracefulStop, Stop}
use Rattle.conn_machine.specs.declared.event.Event.{Event}
use Rattle.conn_machine.specs.declared.event.Event.TheVariants as event
use Rattle.conn_machine.specs.declared.event.Reply.{Reply}
use Rattle.conn_machine.specs.declared.event.Reply.TheVariants.{Done, Took, Cell, Noted}
use Rattle.conn_machine.specs.declared.state.Going.TheVariants.{Ending, Halted}
use Rattle.conn_machine.specs.declared.state.State.{State}
use Rattle.conn_machine.specs.Lists.{update}
use Rattle.conn_machine.specs.Rows.{is_vacant, is_held, is_parked, is_queued, is_working, in_phase, is_from, is_live, is_lingering, is_live_in, has_note, row_passes, lives_and, carried_count, lowest_free_cell}
use Rattle.conn_machine.specs.Children.{is_empty, is_running, is_stopping, child_at, all_stopped, running_count, started_child, retired_child}
use Rattle.conn_machine.specs.Shown.{snapshot_of}
use Rattle.mpm_base.specs.Shape.{is_in_bounds}
use Rattle.mpm_base.specs.declared.shape.Shape.{Shape}
use Rattle.conn_machine.specs.States.{later, is_serving, is_halted, is_over, is_signalled, child_of, pick_child, is_overdue}
use Rattle.mpm_base.specs.Moment.{greatest_moment}

-- ## Accept: a connection is taken into a vacant slot, for the child that the rule of admission names

-- the slot exists and is vacant
abbrev pub is_vacant_at : State → ℕ → Bool
is_vacant_at s slot = row_passes (λ r. is_vacant r.place) s.rows slot

-- the server takes connections, the slot is vacant, and a child admits one
abbrev pub may_accept : State → ℕ → Bool
may_accept s slot = is_serving s.going && is_vacant_at s slot && is_some (pick_child s)

-- the child that the next connection is for; one that takes none where there is none
abbrev pub picked_child : State → ℕ
picked_child s = unwrap_or (pick_child s) 0

-- the row of a connection that was just taken: held, with nothing left of the one before
abbrev pub taken_row : State → Row → Row
taken_row s r =
    record {
      life = r.life;
      arrival = s.accepted;
      child = picked_child s;
      generation = (child_at s.children (picked_child s)).generation;
      place = Held;
      from = None;
      deadline = r.deadline;
      began = None;
      mid = false;
      last = false;
      short = false;
      cause = None;
      notes = [];
      waits = [];
    }

-- the state after Accept: the row is held for the child picked, and its signal goes
abbrev pub next_accept : State → ℕ → State
next_accept s slot =
    record s {
      rows = update s.rows slot (taken_row s);
      signals = slice_set s.signals slot false;
      accepted = next_count s.accepted;
    }

-- the life of the row of the slot
abbrev pub life_at : List Row → ℕ → ℕ
life_at rows slot = option_map_or (λ r. r.life) (slice_get rows slot) 0

-- the reply: the name, the child and the generation of the connection
abbrev pub taken_reply : State → ℕ → Reply
taken_reply s slot =
    Took (record { slot = slot; life = life_at s.rows slot }) (picked_child s)
    (child_at s.children (picked_child s)).generation

-- ## Park: a connection waits

-- the row may wait for this
abbrev pub may_wait : ℕ → Kind → Row → Bool
may_wait moment Reading r =
    (is_held r.place && is_none r.from) || (is_working r.place && not r.last)
may_wait moment KeepAlive r = is_working r.place && not r.last && has_note r
may_wait moment Writing r = is_working r.place
may_wait moment Linger r =
    is_held r.place && is_lingering r && is_from Linger r && nat_lt moment r.deadline
may_wait moment ShortLinger r =
    is_held r.place && is_lingering r && is_from ShortLinger r && nat_lt moment r.deadline

-- the server has not stopped, and the row may wait for this
abbrev pub may_park : State → ConnName → Kind → Bool
may_park s name kind = not (is_halted s.going) && lives_and (may_wait s.moment kind) s.rows name

-- since when the row has waited for its request, where it waits for the rest of it from this moment on: since the first of these waits
abbrev pub began_at : ℕ → Row → ℕ
began_at moment r = unwrap_or r.began moment

-- until when the rest of a request is waited for from this moment on, which has been waited for since another: so long, and where there is a
-- time for a whole request, no longer than that from its first wait on
abbrev pub read_until : ℕ → Shape → ℕ → ℕ
read_until moment shape began =
    if shape.whole_ms == 0 then later moment shape.read_ms
    else min (later moment shape.read_ms) (later began shape.whole_ms)

-- when the wait is over
abbrev pub wait_until : State → Kind → Row → ℕ
wait_until s Reading r = read_until s.moment (child_of s r).shape (began_at s.moment r)
wait_until s KeepAlive r = later s.moment (child_of s r).shape.keep_ms
wait_until s Writing r = later s.moment (child_of s r).shape.read_ms
wait_until s Linger r = r.deadline
wait_until s ShortLinger r = r.deadline

-- whether a response stays begun: one that waits for room does
abbrev pub mid_after : Kind → Row → Bool
mid_after Reading r = false
mid_after KeepAlive r = false
mid_after Writing r = r.mid
mid_after Linger r = r.mid
mid_after ShortLinger r = r.mid

-- since when the row has waited for its request, where it waits for this from the moment on
abbrev pub began_after : ℕ → Kind → Row → Option ℕ
began_after moment Reading r = Some (began_at moment r)
began_after moment KeepAlive r = r.began
began_after moment Writing r = r.began
began_after moment Linger r = r.began
began_after moment ShortLinger r = r.began

-- the row that waits, for this and until its deadline, which is one wait more
abbrev pub parked_row : State → Kind → Row → Row
parked_row s kind r =
    record r {
      place = Parked kind;
      from = Some kind;
      deadline = wait_until s kind r;
      began = began_after s.moment kind r;
      mid = mid_after kind r;
      waits = r.waits ++ kind ∷ [];
    }

-- the state after Park
abbrev pub next_park : State → ConnName → Kind → State
next_park s name kind = record s { rows = update s.rows name.slot (parked_row s kind) }

-- ## Hold: the listener takes a connection, to close it or to drain it

-- the row waits, and its time is over; or its child stops and nothing came; or something came while it lingers; or the
-- server stopped
abbrev pub may_be_held : State → Bool → Row → Bool
may_be_held s signalled r =
    is_parked r.place
    && (nat_le r.deadline s.moment
    || (is_from KeepAlive r && is_stopping (child_of s r).phase && not signalled)
    || (is_lingering r && signalled)
    || is_halted s.going)

-- the row of that name is there, and may be held
abbrev pub may_hold : State → ConnName → Bool
may_hold s name = lives_and (may_be_held s (is_signalled s name.slot)) s.rows name

-- the row that the listener has
abbrev pub held_row : Row → Row
held_row r = record r { place = Held }

-- the signal of a lingering row goes
abbrev pub signal_after_hold : State → ℕ → Bool
signal_after_hold s slot = is_signalled s slot && not (row_passes is_lingering s.rows slot)

-- the state after Hold: the signal of a lingering row goes
abbrev pub next_hold : State → ConnName → State
next_hold s name =
    record s {
      rows = update s.rows name.slot held_row;
      signals = slice_set s.signals name.slot (signal_after_hold s name.slot);
    }

-- ## Queue: a connection is handed to the workers of its child

-- the row waits and does not linger, and a worker of its child is free
abbrev pub may_be_queued : State → Row → Bool
may_be_queued s r =
    is_parked r.place
    && not (is_lingering r)
    && nat_lt (carried_count s.rows r.child) (child_of s r).shape.threads

-- the server has not stopped, and the row of that name is signalled and may be queued
abbrev pub may_queue : State → ConnName → Bool
may_queue s name =
    not (is_halted s.going) && is_signalled s name.slot && lives_and (may_be_queued s) s.rows name

-- the row on its way to a worker
abbrev pub queued_row : Row → Row
queued_row r = record r { place = Queued }

-- the state after Queue: the signal goes
abbrev pub next_queue : State → ConnName → State
next_queue s name =
    record s
    { rows = update s.rows name.slot queued_row; signals = slice_set s.signals name.slot false }

-- ## Start: a worker begins to serve

-- the row of that name is queued
abbrev pub may_start : State → ConnName → Bool
may_start s name = lives_and (λ r. is_queued r.place) s.rows name

-- the lowest free cell of the row's child
abbrev pub cell_for : State → Row → ℕ
cell_for s r = lowest_free_cell s.rows r.child (child_of s r).shape.threads

-- a worker goes on to send where a response was begun, and else reads
abbrev pub phase_at_start : Row → Phase
phase_at_start r =
    if is_from Writing r && r.mid then (if r.last then phase.Close else phase.Write) else phase.Read

-- the row that a worker serves, in its cell and phase
abbrev pub served_row : State → Row → Row
served_row s r = record r { place = Working (cell_for s r) (phase_at_start r) }

-- the state after Start
abbrev pub next_start : State → ConnName → State
next_start s name = record s { rows = update s.rows name.slot (served_row s) }

-- the cell in which the row of the slot is served
abbrev pub cell_at : State → ℕ → ℕ
cell_at s slot = option_map_or (cell_for s) (slice_get s.rows slot) 0

-- ## Answer: a response is decided

-- the server has not stopped, and the row of that name is served and has no last response
abbrev pub may_answer : State → ConnName → Bool
may_answer s name =
    not (is_halted s.going) && lives_and (λ r. is_working r.place && not r.last) s.rows name

-- the response is the last of its connection
abbrev pub is_last_for : State → Ask → Row → Bool
is_last_for s ask r =
    ask.asked_close || ask.refused || length r.notes + 1 == (child_of s r).shape.most
    || not (child_of s r).shape.keep || not (is_running (child_of s r).phase)

-- a worker goes on to send a response, the last one or another
abbrev pub phase_after : Bool → Phase
phase_after last = if last then phase.Close else phase.Write

-- the row once its worker went on to send a response
abbrev pub sending_row : Bool → Row → Row
sending_row last r = record r { place = in_phase (phase_after last) r.place }

-- the state once the worker of the slot's row went on to send a response
abbrev pub when_sending : Bool → ℕ → State → State
when_sending last slot s = record s { rows = update s.rows slot (sending_row last) }

-- what the response shows where it is the status page: the state once its worker went on to send it
abbrev pub page_for : State → ℕ → Ask → Bool → Option Snapshot
page_for s slot ask last = if ask.page then Some (snapshot_of (when_sending last slot s)) else None

-- the note of the response to what the connection in the slot asks
abbrev pub note_for : State → ℕ → Ask → Row → Note
note_for s slot ask r =
    record {
      date = s.moment / 1000;
      asked_close = ask.asked_close || ask.refused;
      last = is_last_for s ask r;
      code = ask.code;
      page = page_for s slot ask (is_last_for s ask r);
    }

-- the row with a response noted: its worker goes on to send it, and its request is waited for no more
abbrev pub with_note : Note → Bool → Row → Row
with_note note short r =
    record r {
      place = in_phase (phase_after note.last) r.place;
      began = None;
      mid = true;
      last = note.last;
      short = short;
      notes = r.notes ++ note ∷ [];
    }

-- the row with a further note, whose response is begun
abbrev pub answered_row : State → ℕ → Ask → Row → Row
answered_row s slot ask r = with_note (note_for s slot ask r) ask.refused r

-- the state after Answer
abbrev pub next_answer : State → ConnName → Ask → State
next_answer s name ask = record s { rows = update s.rows name.slot (answered_row s name.slot ask) }

-- whether the response of the slot is the last one
abbrev pub noted_at : State → ℕ → Ask → Bool
noted_at s slot ask = option_map_or (is_last_for s ask) (slice_get s.rows slot) false

-- ## Linger: the service of a connection ended

-- the listener holds the row, which waited for this until now
abbrev pub is_late_as : State → Kind → Row → Bool
is_late_as s kind r = is_held r.place && is_from kind r && nat_le r.deadline s.moment

-- the cause is one for which a connection lingers, and it is so
abbrev pub linger_cause_fits : State → Cause → Bool → Row → Bool
linger_cause_fits s cause.ClientDone signalled r = false
linger_cause_fits s cause.LastSent signalled r = is_working r.place && r.last
linger_cause_fits s cause.KeepAliveLate signalled r = is_late_as s KeepAlive r
linger_cause_fits s cause.ReadLate signalled r = is_late_as s Reading r
linger_cause_fits s cause.WriteLate signalled r = is_late_as s Writing r
linger_cause_fits s cause.Retiring signalled r =
    is_held r.place && is_from KeepAlive r && is_stopping (child_of s r).phase && not signalled
linger_cause_fits s cause.LinkFailed signalled r = false
linger_cause_fits s cause.Stopped signalled r = false
linger_cause_fits s cause.NoMemory signalled r = false

-- the row of that name does not linger, and the cause fits
abbrev pub may_linger : State → ConnName → Cause → Bool
may_linger s name why =
    lives_and (λ r. not (is_lingering r) && linger_cause_fits s why (is_signalled s name.slot) r)
    s.rows name

-- 2 seconds after a refused request, else 30
abbrev pub linger_ms : Row → ℕ
linger_ms r = if r.short then 2000 else 30000

-- the queue in which a row lingers
abbrev pub linger_kind : Row → Kind
linger_kind r = if r.short then ShortLinger else Linger

-- the row that lingers, for the cause
abbrev pub lingering_row : State → Cause → Row → Row
lingering_row s why r =
    record r {
      place = Parked (linger_kind r);
      from = Some (linger_kind r);
      deadline = later s.moment (linger_ms r);
      mid = false;
      cause = Some why;
    }

-- its signal is set, so that it is drained at least once
abbrev pub next_linger : State → ConnName → Cause → State
next_linger s name why =
    record s {
      rows = update s.rows name.slot (lingering_row s why);
      signals = slice_set s.signals name.slot true;
    }

-- ## Close

-- how a lingering link may be left
abbrev pub linger_tail_fits : State → Tail → Row → Bool
linger_tail_fits s tail.Direct r = false
linger_tail_fits s tail.Drained r = true
linger_tail_fits s tail.Sated r = true
linger_tail_fits s tail.Late r = nat_le r.deadline s.moment
linger_tail_fits s tail.Failed r = true
linger_tail_fits s tail.Halted r = is_halted s.going
linger_tail_fits s tail.NoMemory r = true

-- the tail is Direct: without lingering
abbrev pub is_direct : Tail → Bool
is_direct tail.Direct = true
is_direct tail.Drained = false
is_direct tail.Sated = false
is_direct tail.Late = false
is_direct tail.Failed = false
is_direct tail.Halted = false
is_direct tail.NoMemory = false

-- why a link may be closed without a linger
abbrev pub direct_cause_fits : State → Cause → Row → Bool
direct_cause_fits s cause.ClientDone r = is_working r.place && not r.last
direct_cause_fits s cause.LastSent r = false
direct_cause_fits s cause.KeepAliveLate r = false
direct_cause_fits s cause.ReadLate r = false
direct_cause_fits s cause.WriteLate r = false
direct_cause_fits s cause.Retiring r = false
direct_cause_fits s cause.LinkFailed r = true
direct_cause_fits s cause.Stopped r = is_halted s.going
direct_cause_fits s cause.NoMemory r = true

-- a lingering row is closed for its own cause, another one directly
abbrev pub end_fits : State → Cause → Tail → Row → Bool
end_fits s why how r =
    if is_lingering r
    then option_map_or (λ c. cause_number c == cause_number why) r.cause false
    && linger_tail_fits s how r
    else is_direct how && direct_cause_fits s why r

-- the row of that name is held or served, and cause and tail fit
abbrev pub may_close : State → ConnName → Cause → Tail → Bool
may_close s name why how =
    lives_and (λ r. (is_held r.place || is_working r.place) && end_fits s why how r) s.rows name

-- the greatest use number of a slot
abbrev pub greatest_life : ℕ
greatest_life = 4294967295

-- the row of a slot whose connection was closed: vacant for its next life, or spent
abbrev pub closed_row : Row → Row
closed_row r =
    if r.life == greatest_life
    then record r { place = Spent; notes = [] }
    else record r { life = r.life + 1; place = Vacant; notes = [] }

-- the state after Close: the signal goes
abbrev pub next_close : State → ConnName → State
next_close s name =
    record s
    { rows = update s.rows name.slot closed_row; signals = slice_set s.signals name.slot false }

-- ## Ready: something may have come for a slot

-- the server has not stopped, and the slot exists
abbrev pub may_ready : State → ℕ → Bool
may_ready s slot = not (is_halted s.going) && nat_lt slot (length s.rows)

-- the state after Ready: the slot is signalled
abbrev pub next_ready : State → ℕ → State
next_ready s slot = record s { signals = slice_set s.signals slot true }

-- ## Tick: time passes, where no waiting row is late

-- the server has not stopped, the moment is later and in range, and no row is late
abbrev pub may_tick : State → ℕ → Bool
may_tick s m =
    not (is_halted s.going) && nat_lt s.moment m && nat_le m greatest_moment
    && not (list_any (is_overdue s.moment) s.rows)

-- the state after Tick
abbrev pub next_tick : State → ℕ → State
next_tick s m = record s { moment = m }

-- ## StartChild and Retire

-- the child of that number exists, and passes the test
abbrev pub child_passes : (Child → Bool) → State → ℕ → Bool
child_passes test s k = option_map_or test (slice_get s.children k) false

-- the server takes connections, the child is not there, and fewer run than may
abbrev pub may_start_child : State → ℕ → Bool
may_start_child s k =
    is_serving s.going && child_passes (λ c. is_empty c.phase) s k
    && nat_lt (running_count s.children) s.shape.children

-- the state after StartChild: the child runs, with the newest shape
abbrev pub next_start_child : State → ℕ → State
next_start_child s k = record s { children = update s.children k (started_child s.newest s.shape) }

-- the child stops, and none of its rows is live
abbrev pub may_retire : State → ℕ → Bool
may_retire s k = child_passes (λ c. is_stopping c.phase) s k && not (list_any (is_live_in k) s.rows)

-- the state after Retire: the child is not there
abbrev pub next_retire : State → ℕ → State
next_retire s k = record s { children = update s.children k retired_child }

-- ## Command

-- the greatest generation
abbrev pub greatest_generation : ℕ
greatest_generation = 4294967295

-- the moment, where there is one, isn't before the present one
abbrev pub is_not_past : ℕ → Option ℕ → Bool
is_not_past moment None = true
is_not_past moment (Some until) = nat_le moment until

-- what a stop for this reason needs
abbrev pub stop_fits : State → Why → Bool
stop_fits s why.Asked = true
stop_fits s why.Overdue = is_over s.moment s.going
stop_fits s why.FrontEnded = not (list_any is_live s.rows)
stop_fits s why.FrontFailed = true
stop_fits s why.NoMemory = true

-- what each command needs
abbrev pub command_fits : State → Commanded → Bool
command_fits s (Graceful shape) =
    is_serving s.going && nat_lt s.newest greatest_generation && is_in_bounds shape
command_fits s (Refused reason) = true
command_fits s (GracefulStop until) = is_serving s.going && is_not_past s.moment until
command_fits s (Stop reason) = stop_fits s reason

-- the server has not stopped, and the command has what it needs
abbrev pub may_command : State → Commanded → Bool
may_command s c = not (is_halted s.going) && command_fits s c

-- the state after a command
abbrev pub next_command : State → Commanded → State
next_command s (Graceful shape) =
    record s { newest = s.newest + 1; shape = shape; children = all_stopped s.children }
next_command s (Refused reason) = s
next_command s (GracefulStop until) =
    record s { going = Ending until; children = all_stopped s.children }
next_command s (Stop reason) = record s { going = Halted reason; children = all_stopped s.children }

-- ## The table

-- the state allows the event
abbrev pub is_allowed : State → Event → Bool
is_allowed s (event.Accept slot) = may_accept s slot
is_allowed s (event.Park name kind) = may_park s name kind
is_allowed s (event.Hold name) = may_hold s name
is_allowed s (event.Queue name) = may_queue s name
is_allowed s (event.Start name) = may_start s name
is_allowed s (event.Answer name ask) = may_answer s name
is_allowed s (event.Linger name why) = may_linger s name why
is_allowed s (event.Close name why how) = may_close s name why how
is_allowed s (event.Ready slot) = may_ready s slot
is_allowed s (event.Tick m) = may_tick s m
is_allowed s (event.StartChild k) = may_start_child s k
is_allowed s (event.Command c) = may_command s c
is_allowed s (event.Retire k) = may_retire s k

-- the state after the event
abbrev pub next : State → Event → State
next s (event.Accept slot) = next_accept s slot
next s (event.Park name kind) = next_park s name kind
next s (event.Hold name) = next_hold s name
next s (event.Queue name) = next_queue s name
next s (event.Start name) = next_start s name
next s (event.Answer name ask) = next_answer s name ask
next s (event.Linger name why) = next_linger s name why
next s (event.Close name why how) = next_close s name
next s (event.Ready slot) = next_ready s slot
next s (event.Tick m) = next_tick s m
next s (event.StartChild k) = next_start_child s k
next s (event.Command c) = next_command s c
next s (event.Retire k) = next_retire s k

-- the reply to the event
abbrev pub reply : State → Event → Reply
reply s (event.Accept slot) = taken_reply s slot
reply s (event.Park name kind) = Done
reply s (event.Hold name) = Done
reply s (event.Queue name) = Done
reply s (event.Start name) = Cell (cell_at s name.slot)
reply s (event.Answer name ask) = Noted (noted_at s name.slot ask)
reply s (event.Linger name why) = Done
reply s (event.Close name why how) = Done
reply s (event.Ready slot) = Done
reply s (event.Tick m) = Done
reply s (event.StartChild k) = Done
reply s (event.Command c) = Done
reply s (event.Retire k) = Done

-- the note of the response that the event decides, where it decides one
abbrev pub note_made : State → Event → Option Note
note_made s (event.Answer name ask) = option_map (note_for s name.slot ask) (slice_get s.rows name.slot)
note_made s other = None

-- doing the event may take memory: a response is noted that is the status page
abbrev pub takes_memory : Event → Bool
takes_memory (event.Accept slot) = false
takes_memory (event.Park name kind) = false
takes_memory (event.Hold name) = false
takes_memory (event.Queue name) = false
takes_memory (event.Start name) = false
takes_memory (event.Answer name ask) = ask.page
takes_memory (event.Linger name why) = false
takes_memory (event.Close name why how) = false
takes_memory (event.Ready slot) = false
takes_memory (event.Tick m) = false
takes_memory (event.StartChild k) = false
takes_memory (event.Command c) = false
takes_memory (event.Retire k) = false
