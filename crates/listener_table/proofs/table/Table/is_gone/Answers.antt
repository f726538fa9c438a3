use Rattle.std.proofs.Common.{None, ◌∙◌}
use Rattle.listener_parts.proofs.PartTimeLemmas.{nothing_keeps}
use Rattle.listener_table.proofs.TableLemmas.{is_made, look_did, look_leaves, table_looks}
use Rattle.listener_table.proofs.table.Table.is_gone.Goals as goal

pub invariant_of-self : goal.invariant_of-self
invariant_of-self g c =
    let laws = c.table_rests_on_these.ensures in
    let done = c.take_look-look.ensures in
    (done.own ∙ c.self.invariant.0, table_looks laws c.self.invariant.1 done.listener done.turn done.row)

pub returns-clause-did : goal.returns-clause-did
returns-clause-did g c =
    rw (← c.self.view_is) (look_did c.table_rests_on_these.ensures c.self.invariant.1 c.take_look-look.ensures.listener c.take_look-look.ensures.turn c.take_look-look.ensures.row)

pub returns-clause-rest : goal.returns-clause-rest
returns-clause-rest g c =
    rw (← c.self.view_is) (look_leaves c.table_rests_on_these.ensures c.self.invariant.1 c.take_look-look.ensures.listener c.take_look-look.ensures.turn)

pub returns-clause-timely : goal.returns-clause-timely
returns-clause-timely g c =
    rw (← c.self.view_is) (nothing_keeps c.table_rests_on_these.ensures.frame None _ _ (is_made c.self.invariant.1)
    (look_did c.table_rests_on_these.ensures c.self.invariant.1 c.take_look-look.ensures.listener c.take_look-look.ensures.turn c.take_look-look.ensures.row))
