use Rattle.std.proofs.Common.{ap, sym, ◌∙◌}
use Rattle.conn_machine.specs.Shown.{totals_of}
use Rattle.table_rule.specs.declared.view.View.{View}
use Rattle.board_turns.proofs.GoesOnLemmas.{may_stay}
use Rattle.board_turns.proofs.ThenLemmas.{listener_then, nothing_row, nothing_state}
use Rattle.board_turns.proofs.TurnLemmas.{had_none}
use Rattle.listener_turns.proofs.looks.totals.Goals as goal

pub done-requires-clause-left : goal.done-requires-clause-left
done-requires-clause-left g c = may_stay _ _ (ap (λ (q : View). q.turn) c.turn-turn.ensures.turn.view)

pub returns-clause-listener : goal.returns-clause-listener
returns-clause-listener g c = listener_then _ _ _ _ _ c.turn-turn.ensures.turn c.done.ensures.given c.requires.listener

pub returns-clause-turn : goal.returns-clause-turn
returns-clause-turn g c = (_, had_none _ _ _ c.turn-turn.result.kept c.turn-turn.ensures.turn c.done.ensures.given)

pub returns-clause-row : goal.returns-clause-row
returns-clause-row g c = nothing_row _ _ _ c.turn-turn.result.kept c.turns_rest_on_these.ensures c.turn-turn.ensures.turn c.done.ensures.given

pub returns-clause-totals : goal.returns-clause-totals
returns-clause-totals g c =
    c.totals-totals.ensures
    ∙ ap totals_of (sym (nothing_state _ _ _ c.turn-turn.result.kept c.turns_rest_on_these.ensures c.turn-turn.ensures.turn c.done.ensures.given c.show.ensures.state))
