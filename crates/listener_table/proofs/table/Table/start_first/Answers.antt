use Rattle.std.proofs.Common.{◌∙◌}
use Rattle.listener_parts.proofs.PartTimeLemmas.{first_keep}
use Rattle.listener_table.proofs.TableLemmas.{is_made, table_stays}
use Rattle.listener_table.proofs.table.Table.start_first.Goals as goal

pub invariant_of-self : goal.invariant_of-self
invariant_of-self g c =
    let laws = c.table_rests_on_these.ensures in
    let done = c.start_first.ensures in
    (done.own ∙ c.self.invariant.0, table_stays laws c.self.invariant.1 done.listener _ done.starts.did _ done.credits done.rest)

pub returns-clause-timely : goal.returns-clause-timely
returns-clause-timely g c =
    rw (← c.self.view_is) (first_keep c.table_rests_on_these.ensures.frame c.table_rests_on_these.ensures.others _ _ (is_made c.self.invariant.1) c.start_first.ensures.first)
