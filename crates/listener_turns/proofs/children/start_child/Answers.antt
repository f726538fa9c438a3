use Rattle.std.proofs.Common.{ap, sym, ◌∙◌, is_ok}
use Rattle.conn_machine.specs.declared.event.Event.TheVariants as event
use Rattle.table_rule.specs.declared.view.View.{View}
use Rattle.board_book.specs.Finds.{startable}
use Rattle.board_turns.proofs.FoundLemmas.{pass_as, same_state}
use Rattle.board_turns.proofs.GoesOnLemmas.{changed, made_added, may_change, may_stay}
use Rattle.board_turns.proofs.ThenLemmas.{listener_then, nothing_row, nothing_row_as, nothing_state, row_then}
use Rattle.board_turns.proofs.TurnLemmas.{had_none, had_none_as, had_one, refused_then}
use Rattle.listener_turns.proofs.ChildrenLemmas.{may_start_child}
use Rattle.listener_turns.proofs.children.start_child.Goals as goal

pub done-requires-clause-left : goal.done-requires-clause-left
done-requires-clause-left g c = may_stay _ _ (ap (λ (q : View). q.turn) c.turn-turn.ensures.turn.view)

pub returns-in_default-clause-listener : goal.returns-in_default-clause-listener
returns-in_default-clause-listener g c = listener_then _ _ _ _ _ c.turn-turn.ensures.turn c.done.ensures.given c.requires.listener

pub returns-in_default-clause-row : goal.returns-in_default-clause-row
returns-in_default-clause-row g c = nothing_row _ _ _ c.turn-turn.result.kept c.turns_rest_on_these.ensures c.turn-turn.ensures.turn c.done.ensures.given

pub returns-in_default-clause-none : goal.returns-in_default-clause-none
returns-in_default-clause-none g c = (
  (_, had_none _ _ _ c.turn-turn.result.kept c.turn-turn.ensures.turn c.done.ensures.given),
  ap startable (nothing_state _ _ _ c.turn-turn.result.kept c.turns_rest_on_these.ensures c.turn-turn.ensures.turn c.done.ensures.given c.show.ensures.state)
      ∙ sym c.can_start.ensures ∙ c.in_default.is,
)

pub start_child-started-requires-clause-who : goal.start_child-started-requires-clause-who
start_child-started-requires-clause-who g c = pass_as _ _ c.turn-turn.result.kept 0 c.turn-turn.ensures.turn (sym c.requires.listener.number)

pub start_child-started-requires-clause-allowed : goal.start_child-started-requires-clause-allowed
start_child-started-requires-clause-allowed g c going =
    may_start_child c.turn-turn.result.kept.book.state c.in-Some.child c.show.ensures.sound (sym c.can_start.ensures ∙ c.in-Some.is)

pub done-requires-2-clause-left : goal.done-requires-2-clause-left
done-requires-2-clause-left g c =
    may_change _ _ 0 (is_ok c.start_child-started.result) (event.StartChild c.in-Some.child) c.turn-turn.result.kept c.start_child-started.new.self c.turns_rest_on_these.ensures c.turn-turn.ensures.turn c.requires.listener.number
    (changed c.start_child-started.result 0 (event.StartChild c.in-Some.child) c.turn-turn.result.kept c.start_child-started.new.self c.start_child-started.new.self.conns c.start_child-started.ensures.ok c.start_child-started.ensures.err c.start_child-started.ensures.entries) tt

pub returns-in-Ok-clause-listener : goal.returns-in-Ok-clause-listener
returns-in-Ok-clause-listener g c = listener_then _ _ _ _ _ c.turn-turn.ensures.turn c.done-2.ensures.given c.requires.listener

pub returns-in-Ok-clause-row : goal.returns-in-Ok-clause-row
returns-in-Ok-clause-row g c =
    row_then _ _ _ 0 (event.StartChild c.in-Some.child) c.turn-turn.result.kept c.start_child-started.new.self c.turns_rest_on_these.ensures c.turn-turn.ensures.turn c.done-2.ensures.given c.requires.listener.number
    (made_added 0 (event.StartChild c.in-Some.child) c.turn-turn.result.kept c.start_child-started.new.self c.start_child-started.new.self.conns c.in-Ok.ensures.ok c.start_child-started.ensures.entries)

pub returns-in-Ok-clause-some : goal.returns-in-Ok-clause-some
returns-in-Ok-clause-some g c = (
  _,
  had_one _ _ _ 0 (event.StartChild c.in-Some.child) c.turn-turn.result.kept c.start_child-started.new.self c.turns_rest_on_these.ensures c.turn-turn.ensures.turn c.done-2.ensures.given c.requires.listener.number
      (made_added 0 (event.StartChild c.in-Some.child) c.turn-turn.result.kept c.start_child-started.new.self c.start_child-started.new.self.conns c.in-Ok.ensures.ok c.start_child-started.ensures.entries),
  ap startable (same_state _ _ c.turn-turn.result.kept c.turns_rest_on_these.ensures c.turn-turn.ensures.turn c.show.ensures.state) ∙ sym c.can_start.ensures ∙ c.in-Some.is,
)

pub returns-in-Err-clause-listener : goal.returns-in-Err-clause-listener
returns-in-Err-clause-listener g c = listener_then _ _ _ _ _ c.turn-turn.ensures.turn c.done-2.ensures.given c.requires.listener

pub returns-in-Err-clause-row : goal.returns-in-Err-clause-row
returns-in-Err-clause-row g c =
    nothing_row_as _ _ _ c.turn-turn.result.kept c.start_child-started.new.self c.turns_rest_on_these.ensures c.turn-turn.ensures.turn c.done-2.ensures.given c.in-Err.ensures.err

pub returns-in-Err-clause-err : goal.returns-in-Err-clause-err
returns-in-Err-clause-err g c = (_, had_none_as _ _ _ c.turn-turn.result.kept c.start_child-started.new.self c.turn-turn.ensures.turn c.done-2.ensures.given c.in-Err.ensures.err)

pub returns-in-Err-clause-why : goal.returns-in-Err-clause-why
returns-in-Err-clause-why g c =
    refused_then _ _ _ c.turn-turn.result.kept c.start_child-started.new.self c.in-Err.fault c.turns_rest_on_these.ensures c.turn-turn.ensures.turn c.done-2.ensures.given
    c.in-Err.ensures.err c.show.ensures.state c.in-Err.ensures.why
