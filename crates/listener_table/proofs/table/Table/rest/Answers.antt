use Rattle.std.proofs.Common.{◌∙◌}
use Rattle.listener_table.proofs.TableLemmas.{table_stays}
use Rattle.listener_table.proofs.table.Table.rest.Goals as goal

pub invariant_of-self : goal.invariant_of-self
invariant_of-self g c =
    let laws = c.table_rests_on_these.ensures in
    let done = c.rest_of.ensures in
    (done.own ∙ c.self.invariant.0, table_stays laws c.self.invariant.1 done.listener _ done.did _ done.credits done.rest.stands)
