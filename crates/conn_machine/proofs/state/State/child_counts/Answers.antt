use Rattle.std.proofs.Common.{rules}
use Rattle.conn_machine.specs.States.{child_count}
use Rattle.conn_machine.proofs.ListLemmas.{counted_more}
use Rattle.conn_machine.proofs.state.State.child_counts.Goals as goal

pub loop-number-preserved : goal.loop-number-preserved
loop-number-preserved c = record {
  counted =
      counted_more (child_count c.args.self.now) c.as_slice-child-items.result.now c.loop-number.number _ _ _ _
      c.push.ensures.items c.loop-number.invariant.counted c.child_count.ensures c.loop-number-test.true;
  length_is = search rules;
  within = c.loop-number.invariant.within;
}
