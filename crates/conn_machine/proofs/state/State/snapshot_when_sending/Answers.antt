use Rattle.std.proofs.Common.{◌≤◌, ◌<◌, subst, sym}
use Rattle.conn_machine.proofs.ShownLemmas.{as_many, back_state}
use Rattle.conn_machine.proofs.state.State.snapshot_when_sending.Goals as goal

pub snapshot-shown-requires-clause-few_rows : goal.snapshot-shown-requires-clause-few_rows
snapshot-shown-requires-clause-few_rows c =
    subst (λ n. n ≤ 8192) (sym (as_many c.args.self.now.rows c.go_on.new.self c.args.name.slot _ c.go_on.ensures)) c.requires.few_rows

pub go_on-requires-2 : goal.go_on-requires-2
go_on-requires-2 c =
    subst (λ n. c.args.name.slot < n) (sym (as_many c.args.self.now.rows c.go_on.new.self c.args.name.slot _ c.go_on.ensures))
    c.in-Some.ensures.within

pub returns-in_err-shown-clause-still : goal.returns-in_err-shown-clause-still
returns-in_err-shown-clause-still c =
    back_state c.args.self.now c.go_on.new.self c.go_on-2.new.self c.args.name.slot c.in-Some.row.now c.in-Working.field-0 c.in-Working.phase
    _ c.in-Some.ensures.found c.in-Working.is c.go_on.ensures c.go_on-2.ensures

pub returns-clause-still : goal.returns-clause-still
returns-clause-still c =
    back_state c.args.self.now c.go_on.new.self c.go_on-2.new.self c.args.name.slot c.in-Some.row.now c.in-Working.field-0 c.in-Working.phase
    _ c.in-Some.ensures.found c.in-Working.is c.go_on.ensures c.go_on-2.ensures
