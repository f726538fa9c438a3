use Rattle.std.proofs.Common.{◌∙◌}
use Rattle.conn_machine.proofs.KeptCounts.{child_told, lowest_told}
use Rattle.conn_machine.proofs.rows.Rows.lowest_free_cell.Goals as goal

pub returns-in-Some : goal.returns-in-Some
returns-in-Some c =
    let told =
    child_told c.self.inside.counts c.self.inside.items.items c.args.child c.in-Some.counts c.child.result c.self.invariant c.in-Some.is
    c.child.ensures in
    c.min.ensures
    ∙ lowest_told c.in-Some.counts.busy c.args.child c.args.threads c.lowest_free.result c.self.inside.items.items c.args.self.now
    c.self.view_is told.busy c.lowest_free.ensures.clear c.lowest_free.ensures.lowest
