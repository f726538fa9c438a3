use Rattle.std.proofs.Common.{subst, sym, true, ◌∙◌, ◌≡◌}
use Rattle.conn_machine.specs.States.{is_serving}
use Rattle.board_turns.specs.Books.{state_of}
use Rattle.table_rule.specs.declared.view.View.{View}
use Rattle.listener_parts.proofs.PartTimeLemmas.{order_keeps}
use Rattle.listener_table.proofs.TableLemmas.{is_made, serves_before, table_begins}
use Rattle.listener_table.proofs.table.Table.begin.Goals as goal

pub invariant_of-self : goal.invariant_of-self
invariant_of-self g c =
    let laws = c.table_rests_on_these.ensures in
    let done = c.order-begun.ensures in
    (done.own ∙ c.self.invariant.0, table_begins laws c.self.invariant.1 done.listener _ _ _ _ done.does done.err done.credits c.is_ok.ensures.value c.newest_behind-self-inside.ensures)

pub returns-clause-timely : goal.returns-clause-timely
returns-clause-timely g c =
    let serving = subst (λ (v : View). is_serving (state_of v).going ≡ true) (sym c.self.view_is) c.requires.serving in
    rw (← c.self.view_is) (order_keeps c.table_rests_on_these.ensures.frame _ _ _ c.order-begun.result (is_made c.self.invariant.1) (serves_before (state_of c.self.inside.pass.seat.me.0) serving) c.order-begun.ensures.does c.order-begun.ensures.err)
