use Rattle.std.proofs.Common.{ap, sym, ◌∙◌, is_ok, true≢false}
use Rattle.conn_machine.specs.declared.event.Event.TheVariants as event
use Rattle.conn_machine.specs.declared.state.State.{State}
use Rattle.conn_machine.specs.Table.{is_allowed}
use Rattle.table_rule.specs.declared.view.View.{View}
use Rattle.board_turns.proofs.FoundLemmas.{pass_as}
use Rattle.board_turns.proofs.GoesOnLemmas.{changed, made_added, may_change, may_stay}
use Rattle.board_turns.proofs.ThenLemmas.{listener_then, nothing_row, nothing_row_as, nothing_state, row_then}
use Rattle.board_turns.proofs.TurnLemmas.{had_none, had_none_as, had_one, refused_then}
use Rattle.listener_turns.proofs.parts.pass_time.Goals as goal

pub done-requires-clause-left : goal.done-requires-clause-left
done-requires-clause-left g c = may_stay _ _ (ap (λ (q : View). q.turn) c.turn-turn.ensures.turn.view)

pub returns-then-not-may_make-clause-listener : goal.returns-then-not-may_make-clause-listener
returns-then-not-may_make-clause-listener g c = listener_then _ _ _ _ _ c.turn-turn.ensures.turn c.done.ensures.given c.requires.listener

pub returns-then-not-may_make-clause-row : goal.returns-then-not-may_make-clause-row
returns-then-not-may_make-clause-row g c = nothing_row _ _ _ c.turn-turn.result.kept c.turns_rest_on_these.ensures c.turn-turn.ensures.turn c.done.ensures.given

pub returns-then-not-may_make-clause-turn : goal.returns-then-not-may_make-clause-turn
returns-then-not-may_make-clause-turn g c = (_, had_none _ _ _ c.turn-turn.result.kept c.turn-turn.ensures.turn c.done.ensures.given)

pub returns-then-not-may_make-clause-stays : goal.returns-then-not-may_make-clause-stays
returns-then-not-may_make-clause-stays g c _ =
    ap (λ (s : State). is_allowed s (event.Tick c.args.moment)) (nothing_state _ _ _ c.turn-turn.result.kept c.turns_rest_on_these.ensures c.turn-turn.ensures.turn c.done.ensures.given c.show.ensures.state)
    ∙ sym c.may_make.ensures ∙ c.if-not-may_make.true

pub tick-ticked-requires-clause-who : goal.tick-ticked-requires-clause-who
tick-ticked-requires-clause-who g c = pass_as _ _ c.turn-turn.result.kept 0 c.turn-turn.ensures.turn (sym c.requires.listener.number)

pub done-requires-2-clause-left : goal.done-requires-2-clause-left
done-requires-2-clause-left g c =
    may_change _ _ 0 (is_ok c.tick-ticked.result) (event.Tick c.args.moment) c.turn-turn.result.kept c.tick-ticked.new.self c.turns_rest_on_these.ensures c.turn-turn.ensures.turn c.requires.listener.number
    (changed c.tick-ticked.result 0 (event.Tick c.args.moment) c.turn-turn.result.kept c.tick-ticked.new.self c.tick-ticked.new.self.conns c.tick-ticked.ensures.ok c.tick-ticked.ensures.err c.tick-ticked.ensures.entries) tt

pub returns-in-Ok-clause-listener : goal.returns-in-Ok-clause-listener
returns-in-Ok-clause-listener g c = listener_then _ _ _ _ _ c.turn-turn.ensures.turn c.done-2.ensures.given c.requires.listener

pub returns-in-Ok-clause-row : goal.returns-in-Ok-clause-row
returns-in-Ok-clause-row g c =
    row_then _ _ _ 0 (event.Tick c.args.moment) c.turn-turn.result.kept c.tick-ticked.new.self c.turns_rest_on_these.ensures c.turn-turn.ensures.turn c.done-2.ensures.given c.requires.listener.number
    (made_added 0 (event.Tick c.args.moment) c.turn-turn.result.kept c.tick-ticked.new.self c.tick-ticked.new.self.conns c.in-Ok.ensures.ok c.tick-ticked.ensures.entries)

pub returns-in-Ok-clause-turn : goal.returns-in-Ok-clause-turn
returns-in-Ok-clause-turn g c = (
  _,
  had_one _ _ _ 0 (event.Tick c.args.moment) c.turn-turn.result.kept c.tick-ticked.new.self c.turns_rest_on_these.ensures c.turn-turn.ensures.turn c.done-2.ensures.given c.requires.listener.number
      (made_added 0 (event.Tick c.args.moment) c.turn-turn.result.kept c.tick-ticked.new.self c.tick-ticked.new.self.conns c.in-Ok.ensures.ok c.tick-ticked.ensures.entries),
)

pub returns-in-Ok-clause-stays : goal.returns-in-Ok-clause-stays
returns-in-Ok-clause-stays g c z = absurd (true≢false z)

pub returns-in-Err-clause-listener : goal.returns-in-Err-clause-listener
returns-in-Err-clause-listener g c = listener_then _ _ _ _ _ c.turn-turn.ensures.turn c.done-2.ensures.given c.requires.listener

pub returns-in-Err-clause-row : goal.returns-in-Err-clause-row
returns-in-Err-clause-row g c =
    nothing_row_as _ _ _ c.turn-turn.result.kept c.tick-ticked.new.self c.turns_rest_on_these.ensures c.turn-turn.ensures.turn c.done-2.ensures.given c.in-Err.ensures.err

pub returns-in-Err-clause-err : goal.returns-in-Err-clause-err
returns-in-Err-clause-err g c = (_, had_none_as _ _ _ c.turn-turn.result.kept c.tick-ticked.new.self c.turn-turn.ensures.turn c.done-2.ensures.given c.in-Err.ensures.err)

pub returns-in-Err-clause-why : goal.returns-in-Err-clause-why
returns-in-Err-clause-why g c =
    refused_then _ _ _ c.turn-turn.result.kept c.tick-ticked.new.self c.in-Err.fault c.turns_rest_on_these.ensures c.turn-turn.ensures.turn c.done-2.ensures.given
    c.in-Err.ensures.err c.show.ensures.state c.in-Err.ensures.why
