use Rattle.std.proofs.Common.{◌≡◌, true, None, Some, ap, inl, inr, refl, sym, subst, ◌∙◌}
use Rattle.mpm_base.specs.declared.conn.ConnName.{ConnName}
use Rattle.mpm_base.specs.declared.conn.Cause.{Cause}
use Rattle.mpm_base.specs.declared.conn.Tail.TheVariants as tail
use Rattle.conn_machine.specs.Table.{is_allowed}
use Rattle.conn_machine.specs.declared.event.Event.TheVariants as event
use Rattle.conn_state.specs.Answered.{MayLinger}
use Rattle.board_book.specs.Book.{SeenBook}
use Rattle.board.specs.Board.{SeenBoard}
use Rattle.worker_group.specs.declared.service.Exit.TheVariants as exit
use Rattle.worker_group.specs.Service.{IsWayOut}
use Rattle.rounds.specs.ClosingInside.{IsLateWay}
use Rattle.rounds.proofs.ClosingLemmas.{held-acts, let-go, rest-held, rest-held_closed}
use Rattle.rounds.proofs.HeldLemmas.{held-hand, held-open, holding, late-lingers, late-shows, serves-by, waited-for}
use Rattle.rounds.proofs.LeavingLemmas.{late-closes, row-cause}
use Rattle.rounds.proofs.MeasureLemmas.{weight-after, weight-out}
use Rattle.rounds.proofs.TimeLemmas.{late-parts, late-row, may-hold_late}
use Rattle.rounds.proofs.closing.let_go_late_one.Goals as goal

pub hold-conn-requires-clause-allowed : goal.hold-conn-requires-clause-allowed
hold-conn-requires-clause-allowed g c = may-hold_late c.args.board.now.book.state c.args.name c.requires.late

pub close-requires-clause-row : goal.close-requires-clause-row
close-requires-clause-row g c = c.hold-conn.ensures.row ∙ ap (λ (n : ConnName). Some n) (sym c.hold-conn.ensures.name)

pub close-requires-clause-may : goal.close-requires-clause-may
close-requires-clause-may g c =
    let s = c.args.board.now.book.state in
    let s' = c.hold-conn.new.self.book.state in
    let live = late-row s c.args.name c.requires.late in
    let holds =
    holding c.rows_change_one_at_a_time.ensures.there s s' c.args.name live.row c.hold-conn.result live.found (ap (λ (b : SeenBoard). b.book.state) c.hold-conn.ensures.is) c.hold-conn.ensures.name
    c.hold-conn.ensures.handed c.hold-conn.ensures.way in
    late-closes s s' c.args.name live.row c.hold-conn.result c.in-Some-cause.cause holds
    (row-cause s c.args.name live.row (Some c.in-Some-cause.cause) live.found (sym c.cause-cause.ensures ∙ c.in-Some-cause.is))
    (late-parts s.moment live.row live.passes).1

pub cause_of_late-requires : goal.cause_of_late-requires
cause_of_late-requires g c =
    let s = c.args.board.now.book.state in
    let live = late-row s c.args.name c.requires.late in
    serves-by c.in-Some.kind live.row (waited-for s c.args.name live.row c.in-Some.kind c.show.ensures.sound live.found (sym c.kind.ensures ∙ c.in-Some.is))
    (row-cause s c.args.name live.row None live.found (sym c.cause-cause.ensures ∙ c.in-None.is))

pub linger_for-requires-clause-row : goal.linger_for-requires-clause-row
linger_for-requires-clause-row g c = c.hold-conn.ensures.row ∙ ap (λ (n : ConnName). Some n) (sym c.hold-conn.ensures.name)

pub linger_for-requires-clause-hand : goal.linger_for-requires-clause-hand
linger_for-requires-clause-hand g c =
    let s = c.args.board.now.book.state in
    let s' = c.hold-conn.new.self.book.state in
    let live = late-row s c.args.name c.requires.late in
    let holds =
    holding c.rows_change_one_at_a_time.ensures.there s s' c.args.name live.row c.hold-conn.result live.found (ap (λ (b : SeenBoard). b.book.state) c.hold-conn.ensures.is) c.hold-conn.ensures.name
    c.hold-conn.ensures.handed c.hold-conn.ensures.way in
    held-hand s s' c.args.name live.row c.hold-conn.result holds
    (row-cause s c.args.name live.row None live.found (sym c.cause-cause.ensures ∙ c.in-None.is))

pub linger_for-requires-clause-open : goal.linger_for-requires-clause-open
linger_for-requires-clause-open g c =
    let s = c.args.board.now.book.state in
    let s' = c.hold-conn.new.self.book.state in
    let live = late-row s c.args.name c.requires.late in
    let holds =
    holding c.rows_change_one_at_a_time.ensures.there s s' c.args.name live.row c.hold-conn.result live.found (ap (λ (b : SeenBoard). b.book.state) c.hold-conn.ensures.is) c.hold-conn.ensures.name
    c.hold-conn.ensures.handed c.hold-conn.ensures.way in
    held-open s s' c.args.name live.row c.hold-conn.result holds
    (row-cause s c.args.name live.row None live.found (sym c.cause-cause.ensures ∙ c.in-None.is))

pub linger_for-requires-clause-allowed : goal.linger_for-requires-clause-allowed
linger_for-requires-clause-allowed g c =
    let s = c.args.board.now.book.state in
    let s' = c.hold-conn.new.self.book.state in
    let live = late-row s c.args.name c.requires.late in
    let kind = c.in-Some.kind in
    let is = ap (λ (b : SeenBoard). b.book.state) c.hold-conn.ensures.is in
    let holds =
    holding c.rows_change_one_at_a_time.ensures.there s s' c.args.name live.row c.hold-conn.result live.found is c.hold-conn.ensures.name c.hold-conn.ensures.handed c.hold-conn.ensures.way in
    subst (λ (why : Cause). is_allowed s' (event.Linger c.hold-conn.result.name why) ≡ true) (sym c.cause_of_late.ensures)
    (late-lingers s s' c.args.name live.row c.hold-conn.result kind is holds.held
    (waited-for s c.args.name live.row kind c.show.ensures.sound live.found (sym c.kind.ensures ∙ c.in-Some.is))
    (row-cause s c.args.name live.row None live.found (sym c.cause-cause.ensures ∙ c.in-None.is)) (late-parts s.moment live.row live.passes).1)

pub linger_for-requires-clause-shows : goal.linger_for-requires-clause-shows
linger_for-requires-clause-shows g c =
    let s = c.args.board.now.book.state in
    let s' = c.hold-conn.new.self.book.state in
    let live = late-row s c.args.name c.requires.late in
    let kind = c.in-Some.kind in
    let holds =
    holding c.rows_change_one_at_a_time.ensures.there s s' c.args.name live.row c.hold-conn.result live.found (ap (λ (b : SeenBoard). b.book.state) c.hold-conn.ensures.is) c.hold-conn.ensures.name
    c.hold-conn.ensures.handed c.hold-conn.ensures.way in
    let waits = waited-for s c.args.name live.row kind c.show.ensures.sound live.found (sym c.kind.ensures ∙ c.in-Some.is) in
    subst (λ (why : Cause). MayLinger why c.hold-conn.result) (sym c.cause_of_late.ensures)
    (late-shows c.untouched_connections_may_be_late.ensures s' live.row c.hold-conn.result kind holds.held waits
    (serves-by kind live.row waits (row-cause s c.args.name live.row None live.found (sym c.cause-cause.ensures ∙ c.in-None.is))))

pub returns-in-Some-cause-clause-gone : goal.returns-in-Some-cause-clause-gone
returns-in-Some-cause-clause-gone g c =
    let why = c.in-Some-cause.cause in
    let-go c.passes_act_in_steps.ensures.acts IsLateWay (exit.Close why tail.Late) c.args.name c.hold-conn.result.name c.args.board.now.book c.hold-conn.new.self.book
    c.close.new.board.book (inr (why, refl))
    (held-acts c.passes_act_in_steps.ensures.acts c.args.name _ c.args.board.now c.hold-conn.new.self c.hold-conn.ensures.is c.hold-conn.ensures.entries c.hold-conn.ensures.row)
    c.hold-conn.ensures.name c.close.ensures.acts

pub returns-in-Some-cause-clause-fewer : goal.returns-in-Some-cause-clause-fewer
returns-in-Some-cause-clause-fewer g c =
    let law = c.rows_change_one_at_a_time.ensures in
    let s = c.args.board.now.book.state in
    let live = late-row s c.args.name c.requires.late in
    weight-after (record { there = law.there; kept = law.kept; more = law.more; none = law.none })
    s c.hold-conn.new.self.book.state c.close.new.board.book.state c.args.name c.hold-conn.result.name c.in-Some-cause.cause tail.Late live.row
    live.found live.passes (ap (λ (b : SeenBoard). b.book.state) c.hold-conn.ensures.is) c.hold-conn.ensures.name
    (ap (λ (b : SeenBook). b.state) c.close.ensures.closed)

pub returns-in-Some-cause-clause-rest : goal.returns-in-Some-cause-clause-rest
returns-in-Some-cause-clause-rest g c =
    rest-held_closed c.in-Some-cause.cause tail.Late c.args.name c.hold-conn.result.name _ c.args.board.now c.hold-conn.new.self c.close.new.board.book
    c.hold-conn.ensures.is c.close.ensures.closed

pub returns-in-None-clause-gone : goal.returns-in-None-clause-gone
returns-in-None-clause-gone g c =
    let s = c.args.board.now.book.state in
    let live = late-row s c.args.name c.requires.late in
    let kind = c.in-Some.kind in
    let left = c.linger_for.ensures.left in
    let waits = waited-for s c.args.name live.row kind c.show.ensures.sound live.found (sym c.kind.ensures ∙ c.in-Some.is) in
    let serves = serves-by kind live.row waits (row-cause s c.args.name live.row None live.found (sym c.cause-cause.ensures ∙ c.in-None.is)) in
    let-go c.passes_act_in_steps.ensures.acts IsLateWay left.way c.args.name c.hold-conn.result.name c.args.board.now.book c.hold-conn.new.self.book
    c.linger_for.new.board.book
    (inl (record { kind = kind; serves = serves; out = subst (λ (why : Cause). IsWayOut why left.way) c.cause_of_late.ensures left.out }))
    (held-acts c.passes_act_in_steps.ensures.acts c.args.name _ c.args.board.now c.hold-conn.new.self c.hold-conn.ensures.is c.hold-conn.ensures.entries c.hold-conn.ensures.row)
    c.hold-conn.ensures.name left.acts

pub returns-in-None-clause-fewer : goal.returns-in-None-clause-fewer
returns-in-None-clause-fewer g c =
    let law = c.rows_change_one_at_a_time.ensures in
    let s = c.args.board.now.book.state in
    let live = late-row s c.args.name c.requires.late in
    let left = c.linger_for.ensures.left in
    weight-out (record { there = law.there; kept = law.kept; more = law.more; none = law.none })
    s c.hold-conn.new.self.book.state c.linger_for.new.board.book.state c.args.name c.hold-conn.result.name c.cause_of_late.result left.way live.row
    live.found live.passes (row-cause s c.args.name live.row None live.found (sym c.cause-cause.ensures ∙ c.in-None.is))
    (ap (λ (b : SeenBoard). b.book.state) c.hold-conn.ensures.is) c.hold-conn.ensures.name left.out left.state

pub returns-in-None-clause-rest : goal.returns-in-None-clause-rest
returns-in-None-clause-rest g c =
    c.passes_act_in_steps.ensures.rest c.args.board.now.book c.hold-conn.new.self.book c.linger_for.new.board.book
    (rest-held c.args.name _ c.args.board.now c.hold-conn.new.self c.hold-conn.ensures.is) c.linger_for.ensures.rest
