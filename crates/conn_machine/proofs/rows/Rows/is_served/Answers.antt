use Rattle.std.proofs.Common.{◌∙◌}
use Rattle.conn_machine.specs.Rows.{is_served_in}
use Rattle.conn_machine.proofs.KeptCounts.{bit_told, child_told}
use Rattle.conn_machine.proofs.rows.Rows.is_served.Goals as goal

pub returns-in-Some : goal.returns-in-Some
returns-in-Some c =
    let told =
    child_told c.self.inside.counts c.self.inside.items.items c.args.child c.in-Some.counts c.child.result c.self.invariant c.in-Some.is
    c.child.ensures in
    c.is_busy.ensures
    ∙ bit_told (is_served_in c.args.child c.args.cell) c.in-Some.counts.busy c.args.cell c.self.inside.items.items
    c.args.self.now c.self.view_is (told.busy c.args.cell)
