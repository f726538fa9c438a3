use Rattle.std.proofs.Common.{ap, ◌∙◌}
use Rattle.conn_machine.specs.declared.child.Child.{Child}
use Rattle.table_rule.specs.declared.view.View.{View}
use Rattle.board_turns.proofs.GoesOnLemmas.{may_stay}
use Rattle.listener_turns.proofs.ChildrenLemmas.{credited_listener, credited_row, credited_turn, may_credit}
use Rattle.listener_turns.proofs.children.credit_child.Goals as goal

pub credit-requires-clause-may : goal.credit-requires-clause-may
credit-requires-clause-may g c =
    may_credit _ _ c.turn-turn.result.kept c.args.child c.child-threads.result.shape.threads c.turns_rest_on_these.ensures c.turn-turn.ensures.turn
    c.show.ensures.state c.show.ensures.sound c.requires.listener c.requires.none (ap (λ (x : Child). x.shape.threads) c.child-threads.ensures)

pub done-requires-clause-left : goal.done-requires-clause-left
done-requires-clause-left g c =
    may_stay _ _ (ap (λ (u : View). u.turn) c.credit.ensures.credited.1.0 ∙ ap (λ (u : View). u.turn) c.turn-turn.ensures.turn.view)

pub returns-clause-listener : goal.returns-clause-listener
returns-clause-listener g c =
    credited_listener _ _ _ _ c.turn-turn.result.kept c.args.child c.child-threads.result.shape.threads c.turn-turn.ensures.turn c.credit.ensures.credited
    c.done.ensures.given c.requires.listener

pub returns-clause-row : goal.returns-clause-row
returns-clause-row g c =
    credited_row _ _ _ _ c.turn-turn.result.kept c.args.child c.child-threads.result.shape.threads c.turn-turn.ensures.turn c.credit.ensures.credited
    c.done.ensures.given c.turns_rest_on_these.ensures

pub returns-clause-credited : goal.returns-clause-credited
returns-clause-credited g c =
    credited_turn _ _ _ _ c.turn-turn.result.kept c.args.child c.child-threads.result.shape.threads c.turn-turn.ensures.turn c.credit.ensures.credited
    c.done.ensures.given c.turns_rest_on_these.ensures c.show.ensures.state (ap (λ (x : Child). x.shape.threads) c.child-threads.ensures)
