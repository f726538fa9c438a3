use Rattle.std.proofs.Common.{◌∙◌}
use Rattle.listener_parts.proofs.PartTimeLemmas.{taking_keeps}
use Rattle.listener_table.proofs.TableLemmas.{is_made, table_takes}
use Rattle.listener_table.proofs.table.Table.take.Goals as goal

pub invariant_of-self : goal.invariant_of-self
invariant_of-self g c =
    let laws = c.table_rests_on_these.ensures in
    let done = c.take.ensures in
    (done.own ∙ c.self.invariant.0, table_takes laws c.self.invariant.1 done.listener _ _ _ _ done.takes done.fails done.no_row done.credits done.rest)

pub returns-clause-timely : goal.returns-clause-timely
returns-clause-timely g c =
    rw (← c.self.view_is) (taking_keeps c.table_rests_on_these.ensures.frame _ _ _ _ _ c.take.result (is_made c.self.invariant.1) c.take.ensures.takes c.take.ensures.fails)
