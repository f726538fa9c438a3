use Rattle.std.proofs.Common.{ap, sym, ◌∙◌, true≢false}
use Rattle.std.specs.Prelude.{slice_index}
use Rattle.conn_machine.specs.declared.event.Event.TheVariants as event
use Rattle.conn_machine.specs.declared.state.State.{State}
use Rattle.conn_machine.specs.Table.{is_allowed}
use Rattle.table_rule.specs.declared.view.View.{View}
use Rattle.board_turns.proofs.FoundLemmas.{pass_as}
use Rattle.board_turns.proofs.GoesOnLemmas.{made, may_leave, may_stay}
use Rattle.board_turns.proofs.ThenLemmas.{listener_then, nothing_row, nothing_state, row_then}
use Rattle.board_turns.proofs.TurnLemmas.{had_none, had_one}
use Rattle.listener_turns.proofs.children.retire_child.Goals as goal

pub done-requires-clause-left : goal.done-requires-clause-left
done-requires-clause-left g c = may_stay _ _ (ap (λ (q : View). q.turn) c.turn-turn.ensures.turn.view)

pub returns-then-not-may_make-clause-listener : goal.returns-then-not-may_make-clause-listener
returns-then-not-may_make-clause-listener g c = listener_then _ _ _ _ _ c.turn-turn.ensures.turn c.done.ensures.given c.requires.listener

pub returns-then-not-may_make-clause-row : goal.returns-then-not-may_make-clause-row
returns-then-not-may_make-clause-row g c = nothing_row _ _ _ c.turn-turn.result.kept c.turns_rest_on_these.ensures c.turn-turn.ensures.turn c.done.ensures.given

pub returns-then-not-may_make-clause-turn : goal.returns-then-not-may_make-clause-turn
returns-then-not-may_make-clause-turn g c = (_, had_none _ _ _ c.turn-turn.result.kept c.turn-turn.ensures.turn c.done.ensures.given)

pub returns-then-not-may_make-clause-stays : goal.returns-then-not-may_make-clause-stays
returns-then-not-may_make-clause-stays g c _ =
    ap (λ (s : State). is_allowed s (event.Retire c.args.child)) (nothing_state _ _ _ c.turn-turn.result.kept c.turns_rest_on_these.ensures c.turn-turn.ensures.turn c.done.ensures.given c.show.ensures.state)
    ∙ sym c.may_make.ensures ∙ c.if-not-may_make.true

pub retire-requires-clause-who : goal.retire-requires-clause-who
retire-requires-clause-who g c = pass_as _ _ c.turn-turn.result.kept 0 c.turn-turn.ensures.turn (sym c.requires.listener.number)

pub done-requires-2-clause-left : goal.done-requires-2-clause-left
done-requires-2-clause-left g c =
    may_leave _ _ 0 (event.Retire c.args.child) c.turn-turn.result.kept c.retire.new.self c.turns_rest_on_these.ensures c.turn-turn.ensures.turn c.requires.listener.number
    (made 0 (event.Retire c.args.child) c.turn-turn.result.kept c.retire.new.self c.turn-turn.result.kept.conns c.retire.ensures.is c.retire.ensures.entries) (ap (λ (q : View). slice_index q.credits c.args.child) c.turn-turn.ensures.turn.view ∙ c.requires.none)

pub returns-clause-listener : goal.returns-clause-listener
returns-clause-listener g c = listener_then _ _ _ _ _ c.turn-turn.ensures.turn c.done-2.ensures.given c.requires.listener

pub returns-clause-row : goal.returns-clause-row
returns-clause-row g c =
    row_then _ _ _ 0 (event.Retire c.args.child) c.turn-turn.result.kept c.retire.new.self c.turns_rest_on_these.ensures c.turn-turn.ensures.turn c.done-2.ensures.given c.requires.listener.number
    (made 0 (event.Retire c.args.child) c.turn-turn.result.kept c.retire.new.self c.turn-turn.result.kept.conns c.retire.ensures.is c.retire.ensures.entries)

pub returns-clause-turn : goal.returns-clause-turn
returns-clause-turn g c = (
  _,
  had_one _ _ _ 0 (event.Retire c.args.child) c.turn-turn.result.kept c.retire.new.self c.turns_rest_on_these.ensures c.turn-turn.ensures.turn c.done-2.ensures.given c.requires.listener.number
      (made 0 (event.Retire c.args.child) c.turn-turn.result.kept c.retire.new.self c.turn-turn.result.kept.conns c.retire.ensures.is c.retire.ensures.entries),
)

pub returns-clause-stays : goal.returns-clause-stays
returns-clause-stays g c z = absurd (true≢false z)
