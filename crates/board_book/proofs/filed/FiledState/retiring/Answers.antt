use Rattle.std.proofs.Common.{◌≡◌, ◌≤◌, length, ap, ◌∙◌, arith}
use Rattle.conn_machine.specs.declared.state.State.{State}
use Rattle.board_book.specs.Finds.{is_let_go}
use Rattle.board_book.proofs.FiledLemmas.{finds_more, finds_in_all, go_beyond}
use Rattle.board_book.proofs.filed.FiledState.retiring.Goals as goal

pub loop-child-preserved : goal.loop-child-preserved
loop-child-preserved c =
    finds_more (is_let_go c.args.self.now) c.args.self.now c.loop-child.child c.loop-child.found c.retiring_in.result c.longer-found.result c.loop-child.invariant
    c.retiring_in.ensures c.longer-found.ensures.either c.longer-found.ensures.none

pub returns : goal.returns
returns c =
    let s = c.args.self.now in
    let count : c.len-child-end.result ≡ length s.children =
    c.len-child-end.ensures ∙ ap (λ (t : State). length t.children) c.self.view_is in
    let all : length s.children ≤ c.loop-child.child = omega (arith, count, c.loop-child-test.false) in
    finds_in_all (is_let_go s) s c.loop-child.child c.loop-child.found c.loop-child.invariant all (go_beyond s)
