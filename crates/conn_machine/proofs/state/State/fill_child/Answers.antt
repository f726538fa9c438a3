use Rattle.std.proofs.Common.{◌≡◌, arith}
use Rattle.conn_machine.specs.Shown.{letter_in}
use Rattle.conn_machine.proofs.ShownLemmas.{letter_more}
use Rattle.conn_machine.proofs.state.State.fill_child.Goals as goal

pub loop-cell-preserved : goal.loop-cell-preserved
loop-cell-preserved c = record {
  made =
      letter_more (letter_in c.args.child.now.phase c.args.self.now c.args.number) c.args.letters.now.items c.loop-cell.letters.items c.push.new.self.items
      c.loop-cell.cell c.letter.result c.push.ensures.items c.loop-cell.invariant.made c.letter.ensures;
  len = omega (arith, c.push.ensures.len, c.loop-cell.invariant.len);
}
