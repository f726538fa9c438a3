use Rattle.std.proofs.Common.{None, Some, ap, inl, inr, refl, sym, ◌∙◌}
use Rattle.mpm_base.specs.declared.conn.ConnName.{ConnName}
use Rattle.mpm_base.specs.declared.conn.Cause.TheVariants as cause
use Rattle.mpm_base.specs.declared.conn.Tail.TheVariants as tail
use Rattle.board_book.specs.Book.{SeenBook}
use Rattle.board.specs.Board.{SeenBoard}
use Rattle.worker_group.specs.declared.service.Exit.TheVariants as exit
use Rattle.rounds.specs.ClosingInside.{IsHaltedWay}
use Rattle.rounds.proofs.ClosingLemmas.{held-acts, let-go, rest-held_closed}
use Rattle.rounds.proofs.HeldLemmas.{holding}
use Rattle.rounds.proofs.LeavingLemmas.{halted-closes, halted-stops, row-cause}
use Rattle.rounds.proofs.ListenLemmas.{may-hold, waits}
use Rattle.rounds.proofs.MeasureLemmas.{parked-after}
use Rattle.rounds.proofs.down.close_one.Goals as goal

pub hold-conn-requires-clause-allowed : goal.hold-conn-requires-clause-allowed
hold-conn-requires-clause-allowed g c = may-hold c.args.board.now.book.state c.args.name c.requires.waits c.requires.halted

pub close-requires-clause-row : goal.close-requires-clause-row
close-requires-clause-row g c = c.hold-conn.ensures.row ∙ ap (λ (n : ConnName). Some n) (sym c.hold-conn.ensures.name)

pub close-requires-clause-may : goal.close-requires-clause-may
close-requires-clause-may g c =
    let s = c.args.board.now.book.state in
    let s' = c.hold-conn.new.self.book.state in
    let live = waits s c.args.name c.requires.waits in
    let holds =
    holding c.rows_change_one_at_a_time.ensures.there s s' c.args.name live.row c.hold-conn.result live.found (ap (λ (b : SeenBoard). b.book.state) c.hold-conn.ensures.is) c.hold-conn.ensures.name
    c.hold-conn.ensures.handed c.hold-conn.ensures.way in
    halted-closes s s' c.args.name live.row c.hold-conn.result c.in-Some.cause holds
    (row-cause s c.args.name live.row (Some c.in-Some.cause) live.found (sym c.cause-cause.ensures ∙ c.in-Some.is)) c.requires.halted

pub close-requires-in-None-clause-row : goal.close-requires-in-None-clause-row
close-requires-in-None-clause-row g c = c.hold-conn.ensures.row ∙ ap (λ (n : ConnName). Some n) (sym c.hold-conn.ensures.name)

pub close-requires-in-None-clause-may : goal.close-requires-in-None-clause-may
close-requires-in-None-clause-may g c =
    let s = c.args.board.now.book.state in
    let s' = c.hold-conn.new.self.book.state in
    let live = waits s c.args.name c.requires.waits in
    let holds =
    holding c.rows_change_one_at_a_time.ensures.there s s' c.args.name live.row c.hold-conn.result live.found (ap (λ (b : SeenBoard). b.book.state) c.hold-conn.ensures.is) c.hold-conn.ensures.name
    c.hold-conn.ensures.handed c.hold-conn.ensures.way in
    halted-stops c.connections_in_hand_may_be_closed.ensures s s' c.args.name live.row c.hold-conn.result holds
    (row-cause s c.args.name live.row None live.found (sym c.cause-cause.ensures ∙ c.in-None.is)) c.requires.halted

pub returns-in-Some-clause-gone : goal.returns-in-Some-clause-gone
returns-in-Some-clause-gone g c =
    let-go c.passes_act_in_steps.ensures.acts IsHaltedWay (exit.Close c.in-Some.cause tail.Halted) c.args.name c.hold-conn.result.name c.args.board.now.book c.hold-conn.new.self.book
    c.close.new.board.book (inr (c.in-Some.cause, refl))
    (held-acts c.passes_act_in_steps.ensures.acts c.args.name _ c.args.board.now c.hold-conn.new.self c.hold-conn.ensures.is c.hold-conn.ensures.entries c.hold-conn.ensures.row)
    c.hold-conn.ensures.name c.close.ensures.acts

pub returns-in-Some-clause-fewer : goal.returns-in-Some-clause-fewer
returns-in-Some-clause-fewer g c =
    let law = c.rows_change_one_at_a_time.ensures in
    let s = c.args.board.now.book.state in
    let live = waits s c.args.name c.requires.waits in
    parked-after (record { there = law.there; kept = law.kept; more = law.more; none = law.none })
    s c.hold-conn.new.self.book.state c.close.new.board.book.state c.args.name c.hold-conn.result.name c.in-Some.cause tail.Halted live.row
    live.found live.passes (ap (λ (b : SeenBoard). b.book.state) c.hold-conn.ensures.is) c.hold-conn.ensures.name
    (ap (λ (b : SeenBook). b.state) c.close.ensures.closed)

pub returns-in-Some-clause-going : goal.returns-in-Some-clause-going
returns-in-Some-clause-going g c =
    ap (λ (b : SeenBook). b.state.going) c.close.ensures.closed ∙ ap (λ (b : SeenBoard). b.book.state.going) c.hold-conn.ensures.is

pub returns-in-Some-clause-rest : goal.returns-in-Some-clause-rest
returns-in-Some-clause-rest g c =
    rest-held_closed c.in-Some.cause tail.Halted c.args.name c.hold-conn.result.name _ c.args.board.now c.hold-conn.new.self c.close.new.board.book
    c.hold-conn.ensures.is c.close.ensures.closed

pub returns-in-None-clause-gone : goal.returns-in-None-clause-gone
returns-in-None-clause-gone g c =
    let-go c.passes_act_in_steps.ensures.acts IsHaltedWay (exit.Close cause.Stopped tail.Direct) c.args.name c.hold-conn.result.name c.args.board.now.book c.hold-conn.new.self.book
    c.close-in-None.new.board.book (inl refl)
    (held-acts c.passes_act_in_steps.ensures.acts c.args.name _ c.args.board.now c.hold-conn.new.self c.hold-conn.ensures.is c.hold-conn.ensures.entries c.hold-conn.ensures.row)
    c.hold-conn.ensures.name c.close-in-None.ensures.acts

pub returns-in-None-clause-fewer : goal.returns-in-None-clause-fewer
returns-in-None-clause-fewer g c =
    let law = c.rows_change_one_at_a_time.ensures in
    let s = c.args.board.now.book.state in
    let live = waits s c.args.name c.requires.waits in
    parked-after (record { there = law.there; kept = law.kept; more = law.more; none = law.none })
    s c.hold-conn.new.self.book.state c.close-in-None.new.board.book.state c.args.name c.hold-conn.result.name cause.Stopped tail.Direct live.row
    live.found live.passes (ap (λ (b : SeenBoard). b.book.state) c.hold-conn.ensures.is) c.hold-conn.ensures.name
    (ap (λ (b : SeenBook). b.state) c.close-in-None.ensures.closed)

pub returns-in-None-clause-going : goal.returns-in-None-clause-going
returns-in-None-clause-going g c =
    ap (λ (b : SeenBook). b.state.going) c.close-in-None.ensures.closed ∙ ap (λ (b : SeenBoard). b.book.state.going) c.hold-conn.ensures.is

pub returns-in-None-clause-rest : goal.returns-in-None-clause-rest
returns-in-None-clause-rest g c =
    rest-held_closed cause.Stopped tail.Direct c.args.name c.hold-conn.result.name _ c.args.board.now c.hold-conn.new.self c.close-in-None.new.board.book
    c.hold-conn.ensures.is c.close-in-None.ensures.closed
