use Rattle.std.proofs.Common.{◌≡◌, true, rules}
use Rattle.conn_machine.specs.Children.{child_at, is_stopping}
use Rattle.board_book.proofs.FiledLemmas.{go_found}
use Rattle.board_book.proofs.filed.FiledState.retiring_in.Goals as goal

pub returns-then-is_stopping : goal.returns-then-is_stopping
returns-then-is_stopping c =
    let s = c.args.self.now in
    let stops : is_stopping (child_at s.children c.args.child).phase ≡ true = search rules in
    go_found s c.args.child c.first_in.result c.requires stops c.first_in.ensures
