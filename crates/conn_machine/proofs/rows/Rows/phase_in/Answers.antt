use Rattle.std.proofs.Common.{◌∙◌}
use Rattle.conn_machine.proofs.KeptCounts.{child_told, phase_told}
use Rattle.conn_machine.proofs.rows.Rows.phase_in.Goals as goal

pub returns-in-Some : goal.returns-in-Some
returns-in-Some c =
    let told =
    child_told c.self.inside.counts c.self.inside.items.items c.args.child c.in-Some.counts c.child.result c.self.invariant c.in-Some.is
    c.child.ensures in
    c.phase_in.ensures
    ∙ phase_told c.in-Some.counts c.args.child c.args.cell c.self.inside.items.items c.args.self.now c.self.view_is told
