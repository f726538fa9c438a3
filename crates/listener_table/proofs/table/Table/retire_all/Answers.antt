use Rattle.std.proofs.Common.{◌∙◌}
use Rattle.listener_parts.proofs.PartTimeLemmas.{retires_keep}
use Rattle.listener_table.proofs.TableLemmas.{is_made, table_stays}
use Rattle.listener_table.proofs.table.Table.retire_all.Goals as goal

pub invariant_of-self : goal.invariant_of-self
invariant_of-self g c =
    let laws = c.table_rests_on_these.ensures in
    let done = c.retire_all.ensures in
    (done.own ∙ c.self.invariant.0, table_stays laws c.self.invariant.1 done.listener _ done.retires.did _ done.credits done.rest)

pub returns-clause-timely : goal.returns-clause-timely
returns-clause-timely g c =
    rw (← c.self.view_is) (retires_keep c.table_rests_on_these.ensures.frame _ _ (is_made c.self.invariant.1) c.retire_all.ensures.retires)
