use Rattle.conn_machine.proofs.KeptCounts.{any_seen, child_told}
use Rattle.conn_machine.proofs.rows.Rows.has_live_in.Goals as goal

pub returns-in-Some : goal.returns-in-Some
returns-in-Some c =
    let told =
    child_told c.self.inside.counts c.self.inside.items.items c.args.child c.in-Some.counts c.child.result c.self.invariant c.in-Some.is
    c.child.ensures in
    any_seen _ c.self.inside.items.items c.args.self.now _ c.self.view_is told.live
