use Rattle.std.proofs.Common.{◌∙◌}
use Rattle.listener_table.proofs.TableLemmas.{is_made, stops_keep, table_stops}
use Rattle.listener_table.proofs.table.Table.stop.Goals as goal

pub invariant_of-self : goal.invariant_of-self
invariant_of-self g c =
    let laws = c.table_rests_on_these.ensures in
    let done = c.stop-stopped.ensures in
    (done.own ∙ c.self.invariant.0, table_stops laws c.self.invariant.1 done.listener _ _ _ done.did done.credits c.going_behind-self-inside.ensures)

pub returns-clause-timely : goal.returns-clause-timely
returns-clause-timely g c =
    rw (← c.self.view_is) (stops_keep c.table_rests_on_these.ensures.frame _ _ _ _ (is_made c.self.invariant.1) c.stop-stopped.ensures.did)
