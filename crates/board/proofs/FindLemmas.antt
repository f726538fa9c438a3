-- A row that waits.
use Rattle.std.proofs.Common.{◌≡◌, ◌↔◌, ℕ, ◌≤◌, Bool, true, false, ◌&&◌, List, [], nat_le, Option, None, Some, IfSome, IsNone, refl, arith}
use Rattle.std.proofs.lemmas.Bool.{and_parts, le-leb}
use Rattle.mpm_base.specs.Moment.{greatest_moment}
use Rattle.mpm_base.specs.declared.conn.ConnName.{ConnName}
use Rattle.conn_machine.specs.declared.state.State.{State}
use Rattle.conn_machine.specs.Rows.{is_parked}
use Rattle.conn_machine.specs.Sound.{HaveDeadlinesInRange}
use Rattle.conn_machine.specs.States.{is_overdue}
use Rattle.timeout_queues.specs.Waiting.{ParkedName, IsPastDeadline, overdue_at}
use Rattle.board_book.specs.Finds.{FindsRow, is_waiting}
use Rattle.board.specs.QueuesInside.{queues_of}
use Rattle.board.proofs.BoardLemmas.{lives_as}
use Rattle.board.proofs.QueueLemmas.{is_late-row, none_late}

-- ## A row that waits

-- what holds beside something true holds alone
false_beside : (b : Bool) → (b && true) ≡ false → b ≡ false
false_beside true none = none
false_beside false none = refl

-- what the queues answer for the greatest moment is a row that waits
pub waiting-finds : (s : State) (queues : List (Option ParkedName)) (now : ℕ) (o : Option ConnName) → queues ≡ queues_of s.rows
    → HaveDeadlinesInRange s.rows → greatest_moment ≤ now → (IsNone o ↔ (overdue_at now queues ≡ [])) → IfSome o (IsPastDeadline queues now)
    → FindsRow is_waiting s o
waiting-finds s queues now None queued range most none late = λ slot r at.
    let due : nat_le r.deadline now ≡ true = le-leb r.deadline now (omega (arith, range slot r at, most)) in
    let not_late : is_overdue now r ≡ false = none_late queues s.rows now queued (none.0 refl) slot r at in
    false_beside (is_parked r.place) (rw due at not_late)
waiting-finds s queues now (Some name) queued range most none late =
    let lives = lives_as s.rows name (is_overdue now) (is_late-row queues s.rows now name queued late).late in
    let waits : is_parked lives.row.place ≡ true = (and_parts (is_parked lives.row.place) (nat_le lives.row.deadline now) lives.passes).0 in
    rw lives.found waits
