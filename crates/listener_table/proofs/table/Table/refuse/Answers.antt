use Rattle.std.proofs.Common.{◌∙◌}
use Rattle.listener_parts.proofs.PartTimeLemmas.{order_keeps}
use Rattle.listener_table.proofs.TableLemmas.{is_made, table_refuses}
use Rattle.listener_table.proofs.table.Table.refuse.Goals as goal

pub invariant_of-self : goal.invariant_of-self
invariant_of-self g c =
    let laws = c.table_rests_on_these.ensures in
    let done = c.order.ensures in
    (done.own ∙ c.self.invariant.0, table_refuses laws c.self.invariant.1 done.listener _ _ done.does done.err done.credits)

pub returns-clause-timely : goal.returns-clause-timely
returns-clause-timely g c =
    rw (← c.self.view_is) (λ before. order_keeps c.table_rests_on_these.ensures.frame _ _ _ c.order.result (is_made c.self.invariant.1) before c.order.ensures.does c.order.ensures.err)
