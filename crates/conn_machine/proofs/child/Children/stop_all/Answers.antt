use Rattle.conn_machine.proofs.ChildLemmas.{set-stopped_to}
use Rattle.conn_machine.proofs.child.Children.stop_all.Goals as goal

pub loop-child-preserved : goal.loop-child-preserved
loop-child-preserved c =
    set-stopped_to c.deref_mut-child-items.result.now c.loop-child.child-items c.loop-child.child-index _ c.stop.new.self
    c.loop-child.invariant c.loop-child-test.true c.stop.ensures
