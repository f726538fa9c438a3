use Rattle.std.proofs.Common.{◌<◌, rules}
use Rattle.conn_machine.specs.Children.{child_at}
use Rattle.conn_machine.specs.Rows.{carried_count}
use Rattle.board_book.proofs.FiledLemmas.{due_found, due_none}
use Rattle.board_book.proofs.filed.FiledState.signalled_in.Goals as goal

pub returns-in_err-first : goal.returns-in_err-first
returns-in_err-first c =
    rw c.from_residual.ensures (due_none c.args.self.now c.args.child c.requires.child c.in_err-first.ensures)

pub returns-then-carried-get : goal.returns-then-carried-get
returns-then-carried-get c =
    let s = c.args.self.now in
    let free : carried_count s.rows c.args.child < (child_at s.children c.args.child).shape.threads = search rules in
    due_found s c.args.child c.in_ok-first.first c.requires.child free c.in_ok-first.ensures
