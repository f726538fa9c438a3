-- The eight events that change a row keep a sound state sound.
use Rattle.std.proofs.Common.{◌≡◌, ◌==◌, ℕ, true, false, not, ◌&&◌, ◌||◌, is_some, slice_set, refl, inl, inr}
use Rattle.std.proofs.lemmas.Bool.{and_parts}
use Rattle.mpm_base.specs.Count.{next_count}
use Rattle.mpm_base.specs.declared.conn.ConnName.{ConnName}
use Rattle.mpm_base.specs.declared.conn.Kind.{Kind}
use Rattle.mpm_base.specs.declared.conn.Cause.{Cause}
use Rattle.mpm_base.specs.declared.conn.Tail.{Tail}
use Rattle.mpm_base.specs.declared.conn.Ask.{Ask}
use Rattle.conn_machine.specs.declared.state.State.{State}
use Rattle.conn_machine.specs.Rows.{is_vacant, is_held, is_queued, is_working, is_lingering, lives_and}
use Rattle.conn_machine.specs.States.{pick_child, is_signalled, is_serving, is_halted}
use Rattle.conn_machine.specs.Table.{is_vacant_at, may_accept, picked_child, taken_row, next_accept, may_wait, may_park, parked_row, next_park, may_hold, may_be_held, held_row, signal_after_hold, next_hold, may_queue, may_be_queued, queued_row, next_queue, may_start, served_row, next_start, may_answer, answered_row, next_answer, may_linger, linger_cause_fits, lingering_row, next_linger, may_close, end_fits, greatest_life, closed_row, next_close}
use Rattle.conn_machine.specs.Sound.{IsSound}
use Rattle.conn_machine.proofs.FairLemmas.{fair_update}
use Rattle.conn_machine.proofs.PickLemmas.{pick_admits}
use Rattle.conn_machine.proofs.RowLemmas.{row_of_slot, row_of_name, sound_row}
use Rattle.conn_machine.proofs.WaitLemmas.{fair-queue, fair-hold, fair-park, fair-linger}
use Rattle.conn_machine.proofs.ServeLemmas.{fair-start, fair-answer, fair_left, left_arrival}
use Rattle.conn_machine.proofs.AcceptLemmas.{picked, fair-accept}

-- a connection that is taken keeps a sound state sound
pub sound-accept : (s : State) (slot : ℕ) → IsSound s → may_accept s slot ≡ true → IsSound (next_accept s slot)
sound-accept s slot sound may =
    let parts = and_parts (is_serving s.going && is_vacant_at s slot) (is_some (pick_child s)) may in
    let has = row_of_slot (λ r. is_vacant r.place) s.rows slot (and_parts (is_serving s.going) (is_vacant_at s slot) parts.0).1 in
    fair_update s slot has.row (taken_row s) (slice_set s.signals slot false) (next_count s.accepted) sound has.found
    (fair-accept s has.row sound (pick_admits s (picked_child s) (picked (pick_child s) parts.1))
    (sound.numbers.deadlines slot has.row has.found))
    (inr (record { count = refl; arrival = refl }))

-- a connection that waits keeps a sound state sound
pub sound-park : (s : State) (name : ConnName) (kind : Kind) → IsSound s → may_park s name kind ≡ true
    → IsSound (next_park s name kind)
sound-park s name kind sound may =
    let lives = and_parts (not (is_halted s.going)) (lives_and (may_wait s.moment kind) s.rows name) may in
    let has = row_of_name (may_wait s.moment kind) s.rows name lives.1 in
    fair_update s name.slot has.row (parked_row s kind) s.signals s.accepted sound has.found
    (fair-park s kind has.row (sound_row s name.slot has.row sound has.found has.live) has.live has.passes)
    (inl (record { count = refl; live = λ _. has.live; arrival = refl }))

-- a connection that the listener takes keeps a sound state sound
pub sound-hold : (s : State) (name : ConnName) → IsSound s → may_hold s name ≡ true → IsSound (next_hold s name)
sound-hold s name sound may =
    let has = row_of_name (may_be_held s (is_signalled s name.slot)) s.rows name may in
    fair_update s name.slot has.row held_row (slice_set s.signals name.slot (signal_after_hold s name.slot)) s.accepted sound has.found
    (fair-hold s (is_signalled s name.slot) has.row (sound_row s name.slot has.row sound has.found has.live) has.live has.passes)
    (inl (record { count = refl; live = λ _. has.live; arrival = refl }))

-- a connection that is handed to the workers keeps a sound state sound
pub sound-queue : (s : State) (name : ConnName) → IsSound s → may_queue s name ≡ true → IsSound (next_queue s name)
sound-queue s name sound may =
    let lives = and_parts (not (is_halted s.going) && is_signalled s name.slot) (lives_and (may_be_queued s) s.rows name) may in
    let has = row_of_name (may_be_queued s) s.rows name lives.1 in
    fair_update s name.slot has.row queued_row (slice_set s.signals name.slot false) s.accepted sound has.found
    (fair-queue s has.row (sound_row s name.slot has.row sound has.found has.live) has.live has.passes)
    (inl (record { count = refl; live = λ _. has.live; arrival = refl }))

-- a connection that a worker begins to serve keeps a sound state sound
pub sound-start : (s : State) (name : ConnName) → IsSound s → may_start s name ≡ true → IsSound (next_start s name)
sound-start s name sound may =
    let has = row_of_name (λ r. is_queued r.place) s.rows name may in
    fair_update s name.slot has.row (served_row s) s.signals s.accepted sound has.found
    (fair-start s name.slot has.row sound has.found (sound_row s name.slot has.row sound has.found has.live) has.live has.passes)
    (inl (record { count = refl; live = λ _. has.live; arrival = refl }))

-- a connection with a response decided keeps a sound state sound
pub sound-answer : (s : State) (name : ConnName) (ask : Ask) → IsSound s → may_answer s name ≡ true → IsSound (next_answer s name ask)
sound-answer s name ask sound may =
    let lives = and_parts (not (is_halted s.going)) (lives_and (λ r. is_working r.place && not r.last) s.rows name) may in
    let has = row_of_name (λ r. is_working r.place && not r.last) s.rows name lives.1 in
    fair_update s name.slot has.row (answered_row s name.slot ask) s.signals s.accepted sound has.found
    (fair-answer s name.slot ask has.row (sound_row s name.slot has.row sound has.found has.live) has.live has.passes)
    (inl (record { count = refl; live = λ _. has.live; arrival = refl }))

-- a connection whose link lingers keeps a sound state sound
pub sound-linger : (s : State) (name : ConnName) (why : Cause) → IsSound s → may_linger s name why ≡ true
    → IsSound (next_linger s name why)
sound-linger s name why sound may =
    let has = row_of_name (λ r. not (is_lingering r) && linger_cause_fits s why (is_signalled s name.slot) r) s.rows name may in
    fair_update s name.slot has.row (lingering_row s why) (slice_set s.signals name.slot true) s.accepted sound has.found
    (fair-linger s why has.row (sound_row s name.slot has.row sound has.found has.live))
    (inl (record { count = refl; live = λ _. has.live; arrival = refl }))

-- a connection that is closed keeps a sound state sound
pub sound-close : (s : State) (name : ConnName) (why : Cause) (how : Tail) → IsSound s → may_close s name why how ≡ true
    → IsSound (next_close s name)
sound-close s name why how sound may =
    let has = row_of_name (λ r. (is_held r.place || is_working r.place) && end_fits s why how r) s.rows name may in
    fair_update s name.slot has.row closed_row (slice_set s.signals name.slot false) s.accepted sound has.found
    (fair_left s has.row (has.row.life == greatest_life) (sound.numbers.deadlines name.slot has.row has.found))
    (inl (record { count = refl; live = λ _. has.live; arrival = left_arrival has.row (has.row.life == greatest_life) }))
