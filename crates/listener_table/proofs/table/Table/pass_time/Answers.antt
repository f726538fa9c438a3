use Rattle.std.proofs.Common.{◌∙◌}
use Rattle.listener_parts.proofs.PartTimeLemmas.{time_keeps}
use Rattle.listener_table.proofs.TableLemmas.{is_made, table_passes}
use Rattle.listener_table.proofs.table.Table.pass_time.Goals as goal

pub invariant_of-self : goal.invariant_of-self
invariant_of-self g c =
    let laws = c.table_rests_on_these.ensures in
    let done = c.let_time_pass-passed.ensures in
    (done.own ∙ c.self.invariant.0, table_passes laws c.self.invariant.1 done.listener _ _ _ _ _ done.passes done.refused done.credits done.moment done.rest done.stays c.is_ok.ensures.value c.moment_behind-self-inside.ensures)

pub returns-clause-at_once : goal.returns-clause-at_once
returns-clause-at_once g c =
    rw (← c.self.view_is) c.let_time_pass-passed.ensures.at_once

pub returns-clause-timely : goal.returns-clause-timely
returns-clause-timely g c =
    rw (← c.self.view_is) (λ may. time_keeps c.table_rests_on_these.ensures.frame _ _ _ _ c.let_time_pass-passed.result (is_made c.self.invariant.1) c.let_time_pass-passed.ensures.passes c.let_time_pass-passed.ensures.refused may)
