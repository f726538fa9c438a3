-- Connections are handed to workers at most as often as something came.
use Rattle.std.proofs.Common.{◌≡◌, ◌≤◌, ℕ, ◌+◌, Bool, true, false, not, List, [], ◌∷◌, cond, Some, slice_get, slice_set, refl, ap, arith}
use Rattle.std.proofs.lemmas.Bool.{and_parts}
use Rattle.mpm_base.specs.declared.conn.ConnName.{ConnName}
use Rattle.mpm_base.specs.declared.conn.Kind.{Kind}
use Rattle.mpm_base.specs.declared.conn.Cause.{Cause}
use Rattle.mpm_base.specs.declared.conn.Ask.{Ask}
use Rattle.mpm_base.specs.declared.conn.Tail.{Tail}
use Rattle.mpm_base.specs.declared.shape.Shape.{Shape}
use Rattle.conn_machine.specs.declared.row.Row.{Row}
use Rattle.conn_machine.specs.declared.event.Event.{Event}
use Rattle.conn_machine.specs.declared.event.Event.TheVariants as event
use Rattle.conn_machine.specs.declared.event.Commanded.{Commanded}
use Rattle.conn_machine.specs.declared.event.Commanded.TheVariants.{Graceful, Refused, GracefulStop, Stop}
use Rattle.conn_machine.specs.declared.event.Entry.{Entry}
use Rattle.conn_machine.specs.declared.state.State.{State}
use Rattle.conn_machine.specs.Lists.{update}
use Rattle.conn_machine.specs.Rows.{is_lingering, is_parked, row_passes}
use Rattle.conn_machine.specs.States.{opening_state, unused_row, is_signalled}
use Rattle.conn_machine.specs.Table.{is_allowed, next, taken_row, next_accept, parked_row, next_park, held_row, signal_after_hold, next_hold, queued_row, next_queue, served_row, next_start, answered_row, next_answer, lingering_row, next_linger, closed_row, next_close, next_command, may_accept, may_park, may_hold, may_queue, may_start, may_answer, may_linger, may_close}
use Rattle.conn_machine.specs.Runs.{Run}
use Rattle.conn_machine.specs.Events.{count_events, is_queue, is_ready}
use Rattle.conn_machine.proofs.AllowedLemmas.{accept-row, park-row, hold-row, queue-row, start-row, answer-row, linger-row, close-row}
use Rattle.conn_machine.proofs.WeightLemmas.{weight, signal_at, weight-change, weight-update, weight-signal, weight-none, signal-cleared, signal-set, count-cons}

-- by whether the row lingers
abbrev waits_by : Bool → Bool → ℕ
waits_by true b = 0
waits_by false true = 1
waits_by false false = 0

-- 1 where the signal of a row is set that isn't lingering, else 0
abbrev waits : Row → Bool → ℕ
waits r b = waits_by (is_lingering r) b

-- how many rows aren't lingering and have their signal set
abbrev pub waiting : State → ℕ
waiting s = weight waits s.rows s.signals

-- a signal makes a difference of 1 at most
waits_by-small : (lingers b b' : Bool) → waits_by lingers b ≤ waits_by lingers b' + 1
waits_by-small true b b' = omega arith
waits_by-small false true b' = omega arith
waits_by-small false false b' = omega arith

-- none where no signal is set
waits_by-cleared : (lingers : Bool) → waits_by lingers false ≡ 0
waits_by-cleared true = refl
waits_by-cleared false = refl

-- no more where the signal is set only if it was
waits_by-less : (lingers b b' : Bool) → (b' ≡ true → b ≡ true) → waits_by lingers b' ≤ waits_by lingers b
waits_by-less true b b' less = omega arith
waits_by-less false true true less = omega arith
waits_by-less false false true less = absurd (cc (less refl))
waits_by-less false b false less = omega arith

-- 1 where the signal of a row is set that isn't lingering
waits_by-set : (lingers b : Bool) → not lingers ≡ true → b ≡ true → waits_by lingers b ≡ 1
waits_by-set true b stays set = absurd (cc)
waits_by-set false true stays set = refl
waits_by-set false false stays set = absurd (cc)

-- ## What a change of one row does

-- its signal goes
cleared : (s : State) (slot : ℕ) (r : Row) (change : Row → Row) → slice_get s.rows slot ≡ Some r
    → weight waits (update s.rows slot change) (slice_set s.signals slot false) + waits r (is_signalled s slot) ≡ waiting s
cleared s slot r change at =
    let gone : waits (change r) (signal_at (slice_set s.signals slot false) slot) ≡ 0 =
    rw (signal-cleared s.signals slot) (waits_by-cleared (is_lingering (change r))) in
    omega (arith, gone, weight-change waits s.rows s.signals slot r change false at)

-- neither its signal nor whether it lingers changes
kept : (s : State) (slot : ℕ) (r : Row) (change : Row → Row) → slice_get s.rows slot ≡ Some r
    → is_lingering (change r) ≡ is_lingering r → weight waits (update s.rows slot change) s.signals ≡ waiting s
kept s slot r change at same =
    let e : waits (change r) (is_signalled s slot) ≡ waits r (is_signalled s slot) = ap (λ l. waits_by l (is_signalled s slot)) same in
    omega (arith, e, weight-update waits s.rows s.signals slot r change at)

-- it lingers from now on
hushed : (s : State) (slot : ℕ) (r : Row) (change : Row → Row) (b : Bool) → slice_get s.rows slot ≡ Some r
    → is_lingering (change r) ≡ true → weight waits (update s.rows slot change) (slice_set s.signals slot b) ≤ waiting s
hushed s slot r change b at lingers =
    let none : waits (change r) (signal_at (slice_set s.signals slot b) slot) ≡ 0 = rw lingers refl in
    omega (arith, none, weight-change waits s.rows s.signals slot r change b at)

-- its signal may go
lowered : (s : State) (slot : ℕ) (r : Row) (change : Row → Row) (b : Bool) → slice_get s.rows slot ≡ Some r
    → is_lingering (change r) ≡ is_lingering r → (b ≡ true → is_signalled s slot ≡ true)
    → weight waits (update s.rows slot change) (slice_set s.signals slot b) ≤ waiting s
lowered s slot r change b at same less =
    let b' = signal_at (slice_set s.signals slot b) slot in
    let fewer : waits_by (is_lingering r) b' ≤ waits_by (is_lingering r) (is_signalled s slot) =
    waits_by-less (is_lingering r) (is_signalled s slot) b' (λ set. less (signal-set s.signals slot b set)) in
    let e : waits (change r) b' ≡ waits_by (is_lingering r) b' = ap (λ l. waits_by l b') same in
    omega (arith, e, fewer, weight-change waits s.rows s.signals slot r change b at)

-- ## The events

-- Accept adds none
accepts : (s : State) (slot : ℕ) → may_accept s slot ≡ true → waiting (next_accept s slot) ≤ waiting s
accepts s slot may =
    let (r, at, vacant) = accept-row s slot may in
    omega (arith, cleared s slot r (taken_row s) at)

-- Park adds none
parks : (s : State) (name : ConnName) (kind : Kind) → may_park s name kind ≡ true → waiting (next_park s name kind) ≤ waiting s
parks s name kind may =
    let (r, at, waits_so) = (park-row s name kind may).1 in
    omega (arith, kept s name.slot r (parked_row s kind) at refl)

-- Hold adds none
holds : (s : State) (name : ConnName) → may_hold s name ≡ true → waiting (next_hold s name) ≤ waiting s
holds s name may =
    let (r, at, held) = hold-row s name may in
    lowered s name.slot r held_row (signal_after_hold s name.slot) at refl
    (λ set. (and_parts (is_signalled s name.slot) (not (row_passes is_lingering s.rows name.slot)) set).0)

-- Queue takes one
queues : (s : State) (name : ConnName) → may_queue s name ≡ true → 1 + waiting (next_queue s name) ≤ waiting s
queues s name may =
    let (came, row) = queue-row s name may in
    let (r, at, fits) = row in
    let stays = (and_parts (is_parked r.place) (not (is_lingering r)) fits).1 in
    omega (arith, waits_by-set (is_lingering r) (is_signalled s name.slot) stays came, cleared s name.slot r queued_row at)

-- Start adds none
starts : (s : State) (name : ConnName) → may_start s name ≡ true → waiting (next_start s name) ≤ waiting s
starts s name may =
    let (r, at, queued) = start-row s name may in
    omega (arith, kept s name.slot r (served_row s) at refl)

-- Answer adds none
answers : (s : State) (name : ConnName) (ask : Ask) → may_answer s name ≡ true → waiting (next_answer s name ask) ≤ waiting s
answers s name ask may =
    let (r, at, works) = answer-row s name may in
    omega (arith, kept s name.slot r (answered_row s name.slot ask) at refl)

-- Linger adds none
lingers : (s : State) (name : ConnName) (why : Cause) → may_linger s name why ≡ true
    → waiting (next_linger s name why) ≤ waiting s
lingers s name why may =
    let (r, at, fits) = linger-row s name why may in
    hushed s name.slot r (lingering_row s why) true at refl

-- Close adds none
closes : (s : State) (name : ConnName) (why : Cause) (how : Tail) → may_close s name why how ≡ true
    → waiting (next_close s name) ≤ waiting s
closes s name why how may =
    let (r, at, there) = close-row s name why how may in
    omega (arith, cleared s name.slot r closed_row at)

-- Command adds none
commands : (s : State) (c : Commanded) → waiting (next_command s c) ≤ waiting s
commands s (Graceful shape) = omega arith
commands s (Refused reason) = omega arith
commands s (GracefulStop until) = omega arith
commands s (Stop why) = omega arith

-- what waits pays for what is handed to workers, and what comes pays for what waits
steps : (s : State) (e : Event) → is_allowed s e ≡ true
    → cond (is_queue e) 1 0 + waiting (next s e) ≤ waiting s + cond (is_ready e) 1 0
steps s (event.Accept slot) may = omega (arith, accepts s slot may)
steps s (event.Park name kind) may = omega (arith, parks s name kind may)
steps s (event.Hold name) may = omega (arith, holds s name may)
steps s (event.Queue name) may = omega (arith, queues s name may)
steps s (event.Start name) may = omega (arith, starts s name may)
steps s (event.Answer name ask) may = omega (arith, answers s name ask may)
steps s (event.Linger name why) may = omega (arith, lingers s name why may)
steps s (event.Close name why how) may = omega (arith, closes s name why how may)
steps s (event.Ready slot) may =
    omega (arith, weight-signal waits (λ r b b'. waits_by-small (is_lingering r) b b') s.rows s.signals slot true)
steps s (event.Tick m) may = omega arith
steps s (event.StartChild k) may = omega arith
steps s (event.Command c) may = omega (arith, commands s c)
steps s (event.Retire k) may = omega arith

-- in a run as many are handed to workers at most as waited at its start and came since
pub queues_paid : (s : State) (history : List Entry) → Run s history
    → count_events is_queue history ≤ count_events is_ready history + waiting s
queues_paid s [] run = omega arith
queues_paid s (e ∷ history) run =
    let here = steps s e.event run.0 in
    let rest = queues_paid (next s e.event) history run.2 in
    omega (arith, here, rest, count-cons is_queue e history, count-cons is_ready e history)

-- in a run from the opening state as many at most as came
pub queues_are_earned : (slots children : ℕ) (shape : Shape) (history : List Entry) → Run (opening_state slots children shape) history
    → count_events is_queue history ≤ count_events is_ready history
queues_are_earned slots children shape history run =
    omega (arith, queues_paid (opening_state slots children shape) history run, weight-none waits unused_row refl slots slots)
