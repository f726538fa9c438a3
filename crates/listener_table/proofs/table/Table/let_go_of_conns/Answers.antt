use Rattle.std.proofs.Common.{◌∙◌}
use Rattle.listener_parts.proofs.PartTimeLemmas.{conns_keep}
use Rattle.listener_table.proofs.TableLemmas.{is_made, table_lets}
use Rattle.listener_table.proofs.table.Table.let_go_of_conns.Goals as goal

pub invariant_of-self : goal.invariant_of-self
invariant_of-self g c =
    let laws = c.table_rests_on_these.ensures in
    let done = c.let_go_of_conns.ensures in
    (done.own ∙ c.self.invariant.0, table_lets laws c.self.invariant.1 done.listener _ done.gone done.until done.credits done.rest)

pub returns-clause-timely : goal.returns-clause-timely
returns-clause-timely g c =
    rw (← c.self.view_is) (conns_keep c.table_rests_on_these.ensures.frame _ _ c.let_go_of_conns.result (is_made c.self.invariant.1) c.let_go_of_conns.ensures.gone c.let_go_of_conns.ensures.until)
