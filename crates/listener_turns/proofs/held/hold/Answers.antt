use Rattle.std.proofs.Common.{None, ap, sym, subst, ◌∙◌}
use Rattle.conn_machine.specs.declared.event.Event.TheVariants as event
use Rattle.conn_machine.specs.declared.state.State.{State}
use Rattle.table_rule.specs.declared.view.View.{View}
use Rattle.board_book.specs.Finds.{FindsRow}
use Rattle.board_turns.specs.Books.{state_of}
use Rattle.board_turns.proofs.FoundLemmas.{pass_as, row_as}
use Rattle.board_turns.proofs.GoesOnLemmas.{may_leave, may_stay}
use Rattle.board_turns.proofs.ThenLemmas.{listener_then, nothing_row, nothing_state}
use Rattle.board_turns.proofs.TurnLemmas.{had_none}
use Rattle.listener_turns.specs.Holds.{is_taken_for}
use Rattle.listener_turns.proofs.HeldLemmas.{found_may, found_waits, holds_for, took_up_for}
use Rattle.listener_turns.proofs.ListenerLemmas.{halted_here, only_serves}
use Rattle.listener_turns.proofs.held.hold.Goals as goal

pub done-requires-clause-left : goal.done-requires-clause-left
done-requires-clause-left g c = may_stay _ _ (ap (λ (q : View). q.turn) c.turn-turn.ensures.turn.view)

pub returns-in_default-clause-listener : goal.returns-in_default-clause-listener
returns-in_default-clause-listener g c = listener_then _ _ _ _ _ c.turn-turn.ensures.turn c.done.ensures.given c.requires.listener

pub returns-in_default-clause-none : goal.returns-in_default-clause-none
returns-in_default-clause-none g c = (_, had_none _ _ _ c.turn-turn.result.kept c.turn-turn.ensures.turn c.done.ensures.given)

pub returns-in_default-clause-no_row : goal.returns-in_default-clause-no_row
returns-in_default-clause-no_row g c = nothing_row _ _ _ c.turn-turn.result.kept c.turns_rest_on_these.ensures c.turn-turn.ensures.turn c.done.ensures.given ∙ c.requires.none

pub returns-in_default-clause-quiet : goal.returns-in_default-clause-quiet
returns-in_default-clause-quiet g c =
    subst (λ (s : State). FindsRow (is_taken_for c.args.why s) s None)
    (sym (nothing_state _ _ _ c.turn-turn.result.kept c.turns_rest_on_these.ensures c.turn-turn.ensures.turn c.done.ensures.given c.show.ensures.state))
    c.in_default.ensures

pub take_up-held-requires-clause-passes : goal.take_up-held-requires-clause-passes
take_up-held-requires-clause-passes g c = pass_as _ _ c.turn-turn.result.kept 0 c.turn-turn.ensures.turn (sym c.requires.listener.number)

pub take_up-held-requires-clause-free : goal.take_up-held-requires-clause-free
take_up-held-requires-clause-free g c = row_as _ _ c.turn-turn.result.kept 0 _ c.turns_rest_on_these.ensures c.turn-turn.ensures.turn (sym c.requires.listener.number) c.requires.none

pub take_up-held-requires-clause-waits : goal.take_up-held-requires-clause-waits
take_up-held-requires-clause-waits g c = found_waits c.args.why c.turn-turn.result.kept.book.state c.in-Some.name c.in-Some.ensures

pub take_up-held-requires-clause-allowed : goal.take_up-held-requires-clause-allowed
take_up-held-requires-clause-allowed g c =
    found_may c.args.why c.turn-turn.result.kept.book.state c.in-Some.name
    (λ why. halted_here (state_of c.args.pass.now.seat.me.0) c.turn-turn.result.kept.book.state
    (only_serves _ _ c.turn-turn.result.kept c.others_leave_the_rest_to_the_listener.ensures c.turns_rest_on_these.ensures c.turn-turn.ensures.turn c.requires.listener.number c.show.ensures.state)
    (c.requires.halted why))
    c.in-Some.ensures

pub done-requires-2-clause-left : goal.done-requires-2-clause-left
done-requires-2-clause-left g c =
    may_leave _ _ 0 (event.Hold c.in-Some.name) c.turn-turn.result.kept c.take_up-held.new.board c.turns_rest_on_these.ensures c.turn-turn.ensures.turn c.requires.listener.number
    c.take_up-held.ensures.made tt

pub returns-clause-listener : goal.returns-clause-listener
returns-clause-listener g c = listener_then _ _ _ _ _ c.turn-turn.ensures.turn c.done-2.ensures.given c.requires.listener

pub returns-clause-some : goal.returns-clause-some
returns-clause-some g c =
    took_up_for _ _ _ c.args.why c.in-Some.name c.take_up-held.result.conn c.turn-turn.result.kept c.take_up-held.new.board c.turns_rest_on_these.ensures
    c.turn-turn.ensures.turn c.done-2.ensures.given c.requires.listener.number c.take_up-held.ensures.made c.show.ensures.state
    c.in-Some.ensures c.take_up-held.ensures.name

pub returns-clause-held : goal.returns-clause-held
returns-clause-held g c =
    let held = c.take_up-held in
    holds_for g.N.Known.known _ _ _ c.args.why c.in-Some.name held.result.conn held.result.kind held.result.cause held.result.late c.turn-turn.result.kept
    held.new.board c.turns_rest_on_these.ensures c.turn-turn.ensures.turn c.done-2.ensures.given c.requires.listener.number held.ensures.made
    c.show.ensures.state c.show-2.ensures.sound
    (λ why. halted_here (state_of c.args.pass.now.seat.me.0) c.turn-turn.result.kept.book.state
    (only_serves _ _ c.turn-turn.result.kept c.others_leave_the_rest_to_the_listener.ensures c.turns_rest_on_these.ensures c.turn-turn.ensures.turn c.requires.listener.number c.show.ensures.state)
    (c.requires.halted why))
    c.in-Some.ensures held.ensures.name held.ensures.row held.ensures.edition
