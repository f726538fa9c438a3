-- The listener takes connections at most as often as something came, and three times for each connection.
use Rattle.std.proofs.Common.{◌≡◌, ◌≤◌, ℕ, ◌+◌, ◌*◌, Bool, true, false, not, ◌&&◌, ◌||◌, List, [], ◌∷◌, cond, Some, nat_lt, nat_le, slice_get, slice_set, refl, sym, ap, ◌∙◌, arith}
use Rattle.std.specs.Option.{option_map_or}
use Rattle.std.specs.List.{list_any}
use Rattle.std.proofs.lemmas.Bool.{and_parts, and_left, and_from, or_left, or_right, ltb-true}
use Rattle.mpm_base.specs.declared.conn.ConnName.{ConnName}
use Rattle.mpm_base.specs.declared.conn.Kind.{Kind}
use Rattle.mpm_base.specs.declared.conn.Kind.TheVariants.{Reading, KeepAlive, Writing, Linger, ShortLinger}
use Rattle.mpm_base.specs.declared.conn.Cause.{Cause}
use Rattle.mpm_base.specs.declared.conn.Cause.TheVariants as cause
use Rattle.mpm_base.specs.declared.conn.Ask.{Ask}
use Rattle.mpm_base.specs.declared.conn.Tail.{Tail}
use Rattle.mpm_base.specs.declared.shape.Shape.{Shape}
use Rattle.conn_machine.specs.declared.row.Place.TheVariants.{Parked}
use Rattle.conn_machine.specs.declared.row.Row.{Row}
use Rattle.conn_machine.specs.declared.event.Event.{Event}
use Rattle.conn_machine.specs.declared.event.Event.TheVariants as event
use Rattle.conn_machine.specs.declared.event.Commanded.{Commanded}
use Rattle.conn_machine.specs.declared.event.Commanded.TheVariants.{Graceful, Refused, GracefulStop, Stop}
use Rattle.conn_machine.specs.declared.event.Entry.{Entry}
use Rattle.conn_machine.specs.declared.state.State.{State}
use Rattle.conn_machine.specs.Lists.{update}
use Rattle.conn_machine.specs.Rows.{is_lingering, is_linger_kind, is_from, is_held, is_parked, is_working, has_note}
use Rattle.conn_machine.specs.Children.{is_stopping}
use Rattle.conn_machine.specs.States.{opening_state, unused_row, is_halted, is_signalled, is_overdue, child_of}
use Rattle.mpm_base.specs.Moment.{greatest_moment}
use Rattle.conn_machine.specs.Table.{is_allowed, next, taken_row, next_accept, may_wait, parked_row, next_park, held_row, signal_after_hold, next_hold, queued_row, next_queue, served_row, next_start, answered_row, next_answer, is_late_as, linger_cause_fits, lingering_row, linger_kind, next_linger, closed_row, next_close, next_ready, next_tick, next_command, may_accept, may_park, may_hold, may_queue, may_start, may_answer, may_linger, may_close, may_tick, may_command, command_fits}
use Rattle.conn_machine.specs.Runs.{Run}
use Rattle.conn_machine.specs.Events.{count_events, is_accept, is_hold, is_ready}
use Rattle.conn_machine.proofs.AllowedLemmas.{accept-row, park-row, hold-row, queue-row, start-row, answer-row, linger-row, close-row}
use Rattle.conn_machine.proofs.ChanceLemmas.{lingered, rests, chances, chances_by-small, chances_by-late, chances_by-works, works-in_phase, chances_by-queued, chances_by-parked, chances_by-rests, rests-not, lingered-linger, lingered-short, linger_kind-lingers, at_least-reading, at_least-ends, at_most-lingers, held_pays, chances-closed, not_late, late_later}
use Rattle.conn_machine.proofs.WeightLemmas.{weight, signal_at, weight-change, weight-update, weight-signal, weight-mono, weight-none, signal-set, count-cons}

-- how often a row may still be held
abbrev left : State → Row → Bool → ℕ
left s r b = chances s.moment (is_halted s.going) r b

-- how often the rows may still be held, where nothing comes
abbrev pub holds_left : State → ℕ
holds_left s = weight (left s) s.rows s.signals

-- ## Events that change one row

-- a row and its signal change
changed : (s : State) (slot : ℕ) (r : Row) (change : Row → Row) (b : Bool) (gained : ℕ) → slice_get s.rows slot ≡ Some r
    → left s (change r) (signal_at (slice_set s.signals slot b) slot) ≤ left s r (is_signalled s slot) + gained
    → weight (left s) (update s.rows slot change) (slice_set s.signals slot b) ≤ holds_left s + gained
changed s slot r change b gained at pays = omega (arith, pays, weight-change (left s) s.rows s.signals slot r change b at)

-- a row changes, and no signal
updated : (s : State) (slot : ℕ) (r : Row) (change : Row → Row) → slice_get s.rows slot ≡ Some r
    → left s (change r) (is_signalled s slot) ≤ left s r (is_signalled s slot)
    → weight (left s) (update s.rows slot change) s.signals ≤ holds_left s
updated s slot r change at pays = omega (arith, pays, weight-update (left s) s.rows s.signals slot r change at)

-- the time of the row is over
abbrev late : State → Row → Bool
late s r = nat_le r.deadline s.moment || is_halted s.going

-- Accept gives three at most
accepts : (s : State) (slot : ℕ) → may_accept s slot ≡ true → holds_left (next_accept s slot) ≤ holds_left s + 3
accepts s slot may =
    let (r, at, vacant) = accept-row s slot may in
    changed s slot r (taken_row s) false 3 at (omega arith)

-- a row that begins to wait for service has three
parks-service : (s : State) (slot : ℕ) (r : Row) (kind : Kind) → slice_get s.rows slot ≡ Some r → is_linger_kind kind ≡ false
    → 3 ≤ left s r (is_signalled s slot) → weight (left s) (update s.rows slot (parked_row s kind)) s.signals ≤ holds_left s
parks-service s slot r kind at serves three =
    let e : rests (Some kind) (is_lingering r) ≡ false = and_left (is_linger_kind kind) (is_lingering r) serves in
    let new : left s (parked_row s kind r) (is_signalled s slot) ≡ 3 + 0 =
    chances_by-parked (late s (parked_row s kind r)) (Parked kind) (Some kind) (rests (Some kind) (is_lingering r)) (is_signalled s slot)
    refl e in
    updated s slot r (parked_row s kind) at (omega (arith, new, three))

-- a worker's row has three at least
works-three : (s : State) (r : Row) (b : Bool) → is_working r.place ≡ true → 3 ≤ left s r b
works-three s r b works =
    omega (arith, chances_by-works (late s r) r.place r.from (rests r.from (is_lingering r)) b works)

-- a row that waits again to be drained has one and its signal, as before
parks-rests : (s : State) (slot : ℕ) (r : Row) (kind : Kind) → slice_get s.rows slot ≡ Some r → is_linger_kind kind ≡ true
    → is_halted s.going ≡ false → is_held r.place ≡ true → is_lingering r ≡ true → lingered r.from ≡ true
    → nat_lt s.moment r.deadline ≡ true → weight (left s) (update s.rows slot (parked_row s kind)) s.signals ≤ holds_left s
parks-rests s slot r kind at drains running held lingers before early =
    let b = is_signalled s slot in
    let is : rests r.from (is_lingering r) ≡ true = and_from (lingered r.from) (is_lingering r) before lingers in
    let is' : rests (Some kind) (is_lingering r) ≡ true = and_from (is_linger_kind kind) (is_lingering r) drains lingers in
    let old : left s r b ≡ cond b 1 0 + 1 =
    chances_by-rests (late s r) r.place r.from (rests r.from (is_lingering r)) b held is
    (not_late s.moment r.deadline (is_halted s.going) early running) in
    let new : left s (parked_row s kind r) b ≡ cond b 1 0 + 1 = rw is' refl in
    updated s slot r (parked_row s kind) at (omega (arith, new, old))

-- a row that waits as it may has no more
parks-row : (s : State) (slot : ℕ) (kind : Kind) (r : Row) → slice_get s.rows slot ≡ Some r → is_halted s.going ≡ false
    → may_wait s.moment kind r ≡ true → weight (left s) (update s.rows slot (parked_row s kind)) s.signals ≤ holds_left s
parks-row s slot Reading r at running fits =
    parks-service s slot r Reading at refl
    (at_least-reading (late s r) r.place r.from (is_lingering r) (is_signalled s slot) r.last fits)
parks-row s slot KeepAlive r at running fits =
    let works = (and_parts (is_working r.place && not r.last) (has_note r) fits).0 in
    parks-service s slot r KeepAlive at refl
    (works-three s r (is_signalled s slot) (and_parts (is_working r.place) (not r.last) works).0)
parks-row s slot Writing r at running fits =
    parks-service s slot r Writing at refl (works-three s r (is_signalled s slot) fits)
parks-row s slot Linger r at running fits =
    let three = and_parts (is_held r.place && is_lingering r && is_from Linger r) (nat_lt s.moment r.deadline) fits in
    let two = and_parts (is_held r.place && is_lingering r) (is_from Linger r) three.0 in
    let one = and_parts (is_held r.place) (is_lingering r) two.0 in
    parks-rests s slot r Linger at refl running one.0 one.1 (lingered-linger r.from two.1) three.1
parks-row s slot ShortLinger r at running fits =
    let three = and_parts (is_held r.place && is_lingering r && is_from ShortLinger r) (nat_lt s.moment r.deadline) fits in
    let two = and_parts (is_held r.place && is_lingering r) (is_from ShortLinger r) three.0 in
    let one = and_parts (is_held r.place) (is_lingering r) two.0 in
    parks-rests s slot r ShortLinger at refl running one.0 one.1 (lingered-short r.from two.1) three.1

-- Park gives none
parks : (s : State) (name : ConnName) (kind : Kind) → may_park s name kind ≡ true
    → holds_left (next_park s name kind) ≤ holds_left s
parks s name kind may =
    let (running, row) = park-row s name kind may in
    let (r, at, fits) = row in
    parks-row s name.slot kind r at running fits

-- Hold takes one
holds : (s : State) (name : ConnName) → may_hold s name ≡ true → 1 + holds_left (next_hold s name) ≤ holds_left s
holds s name may =
    let slot = name.slot in
    let (r, at, fits) = hold-row s name may in
    let b = signal_after_hold s slot in
    let b' = signal_at (slice_set s.signals slot b) slot in
    let less : b' ≡ true → (is_signalled s slot && not (is_lingering r)) ≡ true =
    λ set. ap (λ o. is_signalled s slot && not (option_map_or is_lingering o false)) (sym at) ∙ signal-set s.signals slot b set in
    let pays : 1 + left s (held_row r) b' ≤ left s r (is_signalled s slot) =
    held_pays (nat_le r.deadline s.moment) (is_halted s.going) (is_stopping (child_of s r).phase) r.place r.from (is_lingering r)
    (is_signalled s slot) b' fits less in
    omega (arith, pays, weight-change (left s) s.rows s.signals slot r held_row b at)

-- Queue gives none
queues : (s : State) (name : ConnName) → may_queue s name ≡ true → holds_left (next_queue s name) ≤ holds_left s
queues s name may =
    let slot = name.slot in
    let (came, row) = queue-row s name may in
    let (r, at, fits) = row in
    let both = and_parts (is_parked r.place) (not (is_lingering r)) fits in
    let old = chances_by-parked (late s r) r.place r.from (rests r.from (is_lingering r)) (is_signalled s slot) both.0
    (rests-not r.from (is_lingering r) both.1) in
    omega (arith, changed s slot r queued_row false 0 at (omega (arith, old)))

-- Start gives none
starts : (s : State) (name : ConnName) → may_start s name ≡ true → holds_left (next_start s name) ≤ holds_left s
starts s name may =
    let (r, at, queued) = start-row s name may in
    let b = is_signalled s name.slot in
    let old = chances_by-queued (late s r) r.place r.from (rests r.from (is_lingering r)) b queued in
    updated s name.slot r (served_row s) at (omega (arith, old))

-- Answer gives none
answers : (s : State) (name : ConnName) (ask : Ask) → may_answer s name ≡ true
    → holds_left (next_answer s name ask) ≤ holds_left s
answers s name ask may =
    let (r, at, works) = answer-row s name may in
    let b = is_signalled s name.slot in
    let r' = answered_row s name.slot ask r in
    let works' : is_working r'.place ≡ true = works-in_phase _ r.place ∙ works in
    let old = chances_by-works (late s r) r.place r.from (rests r.from (is_lingering r)) b works in
    let new = chances_by-works (late s r') r'.place r'.from (rests r'.from (is_lingering r')) b works' in
    updated s name.slot r (answered_row s name.slot ask) at (omega (arith, old, new))

-- a row whose time is over is with the listener
late-place : (s : State) (kind : Kind) (r : Row) → is_late_as s kind r ≡ true → (is_held r.place || is_working r.place) ≡ true
late-place s kind r late_so =
    let two = and_parts (is_held r.place && is_from kind r) (nat_le r.deadline s.moment) late_so in
    or_left (is_held r.place) (is_working r.place) (and_parts (is_held r.place) (is_from kind r) two.0).0

-- a row whose service ends is with the listener or with a worker
linger-place : (s : State) (why : Cause) (b : Bool) (r : Row) → linger_cause_fits s why b r ≡ true
    → (is_held r.place || is_working r.place) ≡ true
linger-place s cause.ClientDone b r fits = absurd (cc)
linger-place s cause.LastSent b r fits =
    or_right (is_held r.place) (is_working r.place) (and_parts (is_working r.place) r.last fits).0
linger-place s cause.KeepAliveLate b r fits = late-place s KeepAlive r fits
linger-place s cause.ReadLate b r fits = late-place s Reading r fits
linger-place s cause.WriteLate b r fits = late-place s Writing r fits
linger-place s cause.Retiring b r fits =
    let three = and_parts (is_held r.place && is_from KeepAlive r && is_stopping (child_of s r).phase) (not b) fits in
    let two = and_parts (is_held r.place && is_from KeepAlive r) (is_stopping (child_of s r).phase) three.0 in
    or_left (is_held r.place) (is_working r.place) (and_parts (is_held r.place) (is_from KeepAlive r) two.0).0
linger-place s cause.LinkFailed b r fits = absurd (cc)
linger-place s cause.Stopped b r fits = absurd (cc)
linger-place s cause.NoMemory b r fits = absurd (cc)

-- Linger gives none
lingers : (s : State) (name : ConnName) (why : Cause) → may_linger s name why ≡ true
    → holds_left (next_linger s name why) ≤ holds_left s
lingers s name why may =
    let slot = name.slot in
    let (r, at, fits) = linger-row s name why may in
    let both = and_parts (not (is_lingering r)) (linger_cause_fits s why (is_signalled s slot) r) fits in
    let b' = signal_at (slice_set s.signals slot true) slot in
    let r' = lingering_row s why r in
    let old = at_least-ends (late s r) r.place r.from (rests r.from (is_lingering r)) (is_signalled s slot)
    (linger-place s why (is_signalled s slot) r both.1) (rests-not r.from (is_lingering r) both.0) in
    let is : rests (Some (linger_kind r)) true ≡ true = and_from (is_linger_kind (linger_kind r)) true (linger_kind-lingers r) refl in
    let new = at_most-lingers (late s r') (linger_kind r) (Some (linger_kind r)) (rests (Some (linger_kind r)) true) b' is in
    omega (arith, changed s slot r (lingering_row s why) true 0 at (omega (arith, old, new)))

-- Close gives none
closes : (s : State) (name : ConnName) (why : Cause) (how : Tail) → may_close s name why how ≡ true
    → holds_left (next_close s name) ≤ holds_left s
closes s name why how may =
    let slot = name.slot in
    let (r, at, there) = close-row s name why how may in
    let b' = signal_at (slice_set s.signals slot false) slot in
    let new = chances-closed s.moment (is_halted s.going) r b' in
    omega (arith, changed s slot r closed_row false 0 at (omega (arith, new)))

-- ## Events that change no row

-- where time goes on at most, or the server stops, no row may be held more often
eases : (s s' : State) → s'.rows ≡ s.rows → s'.signals ≡ s.signals → s.moment ≤ s'.moment
    → (is_halted s.going ≡ true → is_halted s'.going ≡ true) → holds_left s' ≤ holds_left s
eases s s' same same' after more = rw (same, same') (weight-mono (left s') (left s) no_more s.rows s.signals)
  where
    no_more : (r : Row) (b : Bool) → left s' r b ≤ left s r b
    no_more r b =
        chances_by-late (late s r) (late s' r) r.place r.from (rests r.from (is_lingering r)) b
        (late_later r.deadline s.moment s'.moment (is_halted s.going) (is_halted s'.going) after more)

-- Tick gives none
ticks : (s : State) (m : ℕ) → may_tick s m ≡ true → holds_left (next_tick s m) ≤ holds_left s
ticks s m may =
    let three = and_parts (not (is_halted s.going) && nat_lt s.moment m && nat_le m greatest_moment)
    (not (list_any (is_overdue s.moment) s.rows)) may in
    let two = and_parts (not (is_halted s.going) && nat_lt s.moment m) (nat_le m greatest_moment) three.0 in
    let later = ltb-true s.moment m (and_parts (not (is_halted s.going)) (nat_lt s.moment m) two.0).1 in
    eases s (next_tick s m) refl refl (omega (arith, later)) (λ halted. halted)

-- a command changes no row, and what is late stays so
commands-by : (s : State) (c : Commanded) → not (is_halted s.going) ≡ true → holds_left (next_command s c) ≤ holds_left s
commands-by s (Graceful shape) running = eases s (next_command s (Graceful shape)) refl refl (omega arith) (λ halted. halted)
commands-by s (Refused reason) running = omega arith
commands-by s (GracefulStop until) running =
    eases s (next_command s (GracefulStop until)) refl refl (omega arith) (λ halted. absurd (cc))
commands-by s (Stop why) running = eases s (next_command s (Stop why)) refl refl (omega arith) (λ halted. refl)

-- Command gives none
commands : (s : State) (c : Commanded) → may_command s c ≡ true → holds_left (next_command s c) ≤ holds_left s
commands s c may =
    let running = (and_parts (not (is_halted s.going)) (command_fits s c) may).0 in
    commands-by s c running

-- Ready gives one at most
readies : (s : State) (slot : ℕ) → holds_left (next_ready s slot) ≤ holds_left s + 1
readies s slot =
    weight-signal (left s) (λ r b b'. chances_by-small (late s r) r.place r.from (rests r.from (is_lingering r)) b b') s.rows s.signals slot true

-- ## Runs

-- what is left pays for what the listener takes; what comes pays for one, and a new connection for three
steps : (s : State) (e : Event) → is_allowed s e ≡ true
    → cond (is_hold e) 1 0 + holds_left (next s e) ≤ holds_left s + cond (is_ready e) 1 0 + 3 * cond (is_accept e) 1 0
steps s (event.Accept slot) may = omega (arith, accepts s slot may)
steps s (event.Park name kind) may = omega (arith, parks s name kind may)
steps s (event.Hold name) may = omega (arith, holds s name may)
steps s (event.Queue name) may = omega (arith, queues s name may)
steps s (event.Start name) may = omega (arith, starts s name may)
steps s (event.Answer name ask) may = omega (arith, answers s name ask may)
steps s (event.Linger name why) may = omega (arith, lingers s name why may)
steps s (event.Close name why how) may = omega (arith, closes s name why how may)
steps s (event.Ready slot) may = omega (arith, readies s slot)
steps s (event.Tick m) may = omega (arith, ticks s m may)
steps s (event.StartChild k) may = omega arith
steps s (event.Command c) may = omega (arith, commands s c may)
steps s (event.Retire k) may = omega arith

-- in a run the listener takes as many at most as were left at its start and came since
pub holds_paid : (s : State) (history : List Entry) → Run s history
    → count_events is_hold history ≤ count_events is_ready history + 3 * count_events is_accept history + holds_left s
holds_paid s [] run = omega arith
holds_paid s (e ∷ history) run =
    let here = steps s e.event run.0 in
    let rest = holds_paid (next s e.event) history run.2 in
    omega (arith, here, rest, count-cons is_hold e history, count-cons is_ready e history, count-cons is_accept e history)

-- in a run from the opening state as many at most as came, and three for each connection
pub holds_are_earned : (slots children : ℕ) (shape : Shape) (history : List Entry) → Run (opening_state slots children shape) history
    → count_events is_hold history ≤ count_events is_ready history + 3 * count_events is_accept history
holds_are_earned slots children shape history run =
    let s = opening_state slots children shape in
    omega (arith, holds_paid s history run, weight-none (left s) unused_row refl slots slots)
