use Rattle.conn_machine.proofs.KeptCounts.{any_seen}
use Rattle.conn_machine.proofs.rows.Rows.has_live.Goals as goal

pub returns : goal.returns
returns c = any_seen _ c.self.inside.items.items c.args.self.now _ c.self.view_is c.self.invariant.totals.live
