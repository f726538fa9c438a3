use Rattle.conn_machine.specs.Shown.{letter_in}
use Rattle.conn_machine.proofs.ShownLemmas.{letter_more}
use Rattle.conn_machine.proofs.state.State.add_letters.Goals as goal

pub loop-cell-preserved : goal.loop-cell-preserved
loop-cell-preserved c =
    letter_more (letter_in c.args.child.now.phase c.args.self.now c.args.number) c.args.letters.now c.loop-cell.letters c.push.new.self c.loop-cell.cell
    c.letter.result c.in_ok-push.ensures.ok c.loop-cell.invariant c.letter.ensures
