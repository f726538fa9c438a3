-- Each connection that was accepted was closed or is live, and the state counts those that were accepted.
use Rattle.std.proofs.Common.{◌≡◌, ◌≤◌, ℕ, ◌+◌, true, false, ◌&&◌, ◌||◌, List, [], ◌∷◌, count_by, cond, min, refl, sym, ◌∙◌, arith}
use Rattle.std.proofs.Math.Nat.{min-le_right}
use Rattle.mpm_base.specs.Count.{greatest_count}
use Rattle.mpm_base.specs.declared.conn.ConnName.{ConnName}
use Rattle.mpm_base.specs.declared.conn.Cause.{Cause}
use Rattle.mpm_base.specs.declared.conn.Tail.{Tail}
use Rattle.mpm_base.specs.declared.shape.Shape.{Shape}
use Rattle.conn_machine.specs.declared.event.Event.{Event}
use Rattle.conn_machine.specs.declared.event.Event.TheVariants as event
use Rattle.conn_machine.specs.declared.event.Commanded.{Commanded}
use Rattle.conn_machine.specs.declared.event.Commanded.TheVariants.{Graceful, Refused, GracefulStop, Stop}
use Rattle.conn_machine.specs.declared.event.Entry.{Entry}
use Rattle.conn_machine.specs.declared.state.State.{State}
use Rattle.conn_machine.specs.Rows.{is_held, is_working, is_live}
use Rattle.conn_machine.specs.States.{opening_state, unused_row}
use Rattle.conn_machine.specs.Table.{is_allowed, next, taken_row, next_accept, end_fits, closed_row, next_close, next_command, may_accept, may_close}
use Rattle.conn_machine.specs.Runs.{Run, after}
use Rattle.conn_machine.specs.Events.{count_events, is_accept, is_close}
use Rattle.conn_machine.proofs.AllowedLemmas.{accept-row}
use Rattle.conn_machine.proofs.CountLemmas.{IsSteady, closed_row-live, comes, count_none, goes, not_live, others}
use Rattle.conn_machine.proofs.RowLemmas.{row_of_name}
use Rattle.conn_machine.proofs.WeightLemmas.{count-cons}

-- how many connections are live
abbrev pub lives : State → ℕ
lives s = count_by is_live s.rows

-- ## The events

-- two live rows are both live
steady : IsSteady is_live
steady r r' live live' same = live' ∙ sym live

-- Accept adds one
accepts : (s : State) (slot : ℕ) → may_accept s slot ≡ true → lives (next_accept s slot) ≡ lives s + 1
accepts s slot may =
    let (r, at, vacant) = accept-row s slot may in
    comes is_live s.rows slot r (taken_row s) true at (not_live r (is_live r) refl vacant) refl

-- Close takes one
closes : (s : State) (name : ConnName) (why : Cause) (how : Tail) → may_close s name why how ≡ true
    → lives (next_close s name) + 1 ≡ lives s
closes s name why how may =
    let found = row_of_name (λ r. (is_held r.place || is_working r.place) && end_fits s why how r) s.rows name may in
    goes is_live s.rows name.slot found.row closed_row true found.found found.live (closed_row-live found.row)

-- any other leaves as many
leaves : (s : State) (e : Event) → is_allowed s e ≡ true → is_accept e ≡ false → is_close e ≡ false
    → lives (next s e) + cond (is_close e) 1 0 ≡ lives s + cond (is_accept e) 1 0
leaves s e may none here = rw (none, here) (omega (arith, others is_live steady s e may none here))

-- an event that is allowed adds one where it is Accept, takes one where it is Close, and else leaves as many
steps : (s : State) (e : Event) → is_allowed s e ≡ true
    → lives (next s e) + cond (is_close e) 1 0 ≡ lives s + cond (is_accept e) 1 0
steps s (event.Accept slot) may = omega (arith, accepts s slot may)
steps s (event.Park name kind) may = leaves s (event.Park name kind) may refl refl
steps s (event.Hold name) may = leaves s (event.Hold name) may refl refl
steps s (event.Queue name) may = leaves s (event.Queue name) may refl refl
steps s (event.Start name) may = leaves s (event.Start name) may refl refl
steps s (event.Answer name ask) may = leaves s (event.Answer name ask) may refl refl
steps s (event.Linger name why) may = leaves s (event.Linger name why) may refl refl
steps s (event.Close name why how) may = omega (arith, closes s name why how may)
steps s (event.Ready slot) may = leaves s (event.Ready slot) may refl refl
steps s (event.Tick m) may = leaves s (event.Tick m) may refl refl
steps s (event.StartChild k) may = leaves s (event.StartChild k) may refl refl
steps s (event.Command c) may = leaves s (event.Command c) may refl refl
steps s (event.Retire k) may = leaves s (event.Retire k) may refl refl

-- ## Runs

-- in a run those that were live at its start and those that were accepted since were closed or are live
balanced : (s : State) (history : List Entry) → Run s history
    → count_events is_accept history + lives s ≡ count_events is_close history + lives (after s history)
balanced s [] run = omega arith
balanced s (e ∷ history) run =
    let here = steps s e.event run.0 in
    let rest = balanced (next s e.event) history run.2 in
    omega (arith, here, rest, count-cons is_accept e history, count-cons is_close e history)

-- in a run from the opening state those that were accepted were closed or are live
pub accepted_balanced : (slots children : ℕ) (shape : Shape) (history : List Entry) → Run (opening_state slots children shape) history
    → count_events is_accept history ≡ count_events is_close history + lives (after (opening_state slots children shape) history)
accepted_balanced slots children shape history run =
    omega (arith, balanced (opening_state slots children shape) history run, count_none is_live unused_row refl slots)

-- ## The count that the state keeps

-- a command counts none
pub counted_command : (s : State) (c : Commanded) → (next_command s c).accepted ≡ s.accepted
counted_command s (Graceful shape) = refl
counted_command s (Refused reason) = refl
counted_command s (GracefulStop until) = refl
counted_command s (Stop why) = refl

-- a number up to the greatest is as far as it goes
counted_none : (n greatest : ℕ) → n ≤ greatest → n ≡ min (n + 0) greatest
counted_none n greatest few = omega (arith, few)

-- an event counts one where it is Accept
pub counted : (s : State) (e : Event) → s.accepted ≤ greatest_count
    → (next s e).accepted ≡ min (s.accepted + cond (is_accept e) 1 0) greatest_count
counted s (event.Accept slot) few = refl
counted s (event.Park name kind) few = counted_none s.accepted greatest_count few
counted s (event.Hold name) few = counted_none s.accepted greatest_count few
counted s (event.Queue name) few = counted_none s.accepted greatest_count few
counted s (event.Start name) few = counted_none s.accepted greatest_count few
counted s (event.Answer name ask) few = counted_none s.accepted greatest_count few
counted s (event.Linger name why) few = counted_none s.accepted greatest_count few
counted s (event.Close name why how) few = counted_none s.accepted greatest_count few
counted s (event.Ready slot) few = counted_none s.accepted greatest_count few
counted s (event.Tick m) few = counted_none s.accepted greatest_count few
counted s (event.StartChild k) few = counted_none s.accepted greatest_count few
counted s (event.Command c) few = counted_command s c ∙ counted_none s.accepted greatest_count few
counted s (event.Retire k) few = counted_none s.accepted greatest_count few

-- a count that goes on twice goes on by the sum
count_on : (old here rest new end all greatest : ℕ) → new ≡ min (old + here) greatest → end ≡ min (new + rest) greatest → all ≡ here + rest
    → end ≡ min (old + all) greatest
count_on old here rest new end all greatest before after_it sum = omega (arith, before, after_it, sum)

-- after each history the state has counted the connections that were accepted, as far as a count goes
pub counts : (s : State) (history : List Entry) → s.accepted ≤ greatest_count
    → (after s history).accepted ≡ min (s.accepted + count_events is_accept history) greatest_count
counts s [] few = counted_none s.accepted greatest_count few
counts s (e ∷ history) few =
    let here = counted s e.event few in
    let few' : (next s e.event).accepted ≤ greatest_count = rw here (min-le_right (s.accepted + cond (is_accept e.event) 1 0) greatest_count) in
    count_on s.accepted (cond (is_accept e.event) 1 0) (count_events is_accept history) (next s e.event).accepted
    (after (next s e.event) history).accepted (count_events is_accept (e ∷ history)) greatest_count here
    (counts (next s e.event) history few') (count-cons is_accept e history)

-- a count that began at 0
from_none : (n greatest count : ℕ) → count ≡ min (0 + n) greatest → count ≡ min n greatest
from_none n greatest count is = omega (arith, is)

-- from the opening state on it has counted all
pub accepted_counted : (slots children : ℕ) (shape : Shape) (history : List Entry)
    → (after (opening_state slots children shape) history).accepted ≡ min (count_events is_accept history) greatest_count
accepted_counted slots children shape history =
    from_none (count_events is_accept history) greatest_count _ (counts (opening_state slots children shape) history (omega arith))
