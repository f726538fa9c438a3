use Rattle.conn_machine.proofs.KeptCounts.{counted_change}
use Rattle.conn_machine.proofs.rows.Rows.go_on.Goals as goal

pub invariant_of-self : goal.invariant_of-self
invariant_of-self c =
    counted_change c.self.inside.counts c.change.new.self c.self.inside.items.items c.args.self.now c.args.slot c.index_mut-row.result.now
    c.go_on.new.self _ _ c.self.invariant c.self.view_is c.requires c.index_mut-row.ensures.value c.standing-before.ensures
    c.standing-now.ensures c.change.ensures
