use Rattle.std.proofs.Common.{◌∙◌}
use Rattle.listener_parts.proofs.PartTimeLemmas.{all_signals_keep}
use Rattle.listener_table.proofs.TableLemmas.{is_made, table_signals}
use Rattle.listener_table.proofs.table.Table.signal.Goals as goal

pub invariant_of-self : goal.invariant_of-self
invariant_of-self g c =
    let laws = c.table_rests_on_these.ensures in
    let done = c.signal.ensures in
    (done.own ∙ c.self.invariant.0, table_signals laws c.self.invariant.1 done.listener _ _ done.signals done.some done.credits done.rest)

pub returns-clause-timely : goal.returns-clause-timely
returns-clause-timely g c =
    rw (← c.self.view_is) (λ may. all_signals_keep c.table_rests_on_these.ensures.frame _ _ _ c.signal.result (is_made c.self.invariant.1) c.signal.ensures.signals c.signal.ensures.some may)
