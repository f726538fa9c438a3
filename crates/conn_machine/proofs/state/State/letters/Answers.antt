use Rattle.conn_machine.specs.Shown.{child_letters}
use Rattle.conn_machine.proofs.ShownLemmas.{letters_more}
use Rattle.conn_machine.proofs.state.State.letters.Goals as goal

pub loop-number-preserved : goal.loop-number-preserved
loop-number-preserved c = record {
  made =
      letters_more (child_letters c.args.self.now) c.as_slice-child-items.result.now c.loop-number.number _ c.loop-number.letters c.add_letters.new.letters
      c.in_ok-add_letters.ensures c.loop-number.invariant.made c.loop-number-test.true;
  within = c.loop-number.invariant.within;
}
