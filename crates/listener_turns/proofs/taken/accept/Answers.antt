use Rattle.std.proofs.Common.{sym, ◌∙◌}
use Rattle.conn_machine.specs.declared.event.Event.TheVariants as event
use Rattle.board_turns.proofs.FoundLemmas.{pass_as, row_as}
use Rattle.board_turns.proofs.GoesOnLemmas.{made_added, may_accept}
use Rattle.board_turns.proofs.ThenLemmas.{listener_then, nothing_row_as}
use Rattle.board_turns.proofs.TurnLemmas.{had_none_as}
use Rattle.listener_turns.proofs.TakenLemmas.{accepted_turn, has_taken, not_taken_then}
use Rattle.listener_turns.proofs.taken.accept.Goals as goal

pub accept-taken-requires-clause-who : goal.accept-taken-requires-clause-who
accept-taken-requires-clause-who g c = pass_as _ _ c.turn-turn.result.kept 0 c.turn-turn.ensures.turn (sym c.requires.listener.number)

pub accept-taken-requires-clause-free : goal.accept-taken-requires-clause-free
accept-taken-requires-clause-free g c = row_as _ _ c.turn-turn.result.kept 0 _ c.turns_rest_on_these.ensures c.turn-turn.ensures.turn (sym c.requires.listener.number) c.requires.none

pub done-requires-clause-left : goal.done-requires-clause-left
done-requires-clause-left g c =
    may_accept _ _ c.turn-turn.result.kept c.accept-taken.new.self c.accept-taken.result c.turns_rest_on_these.ensures c.turn-turn.ensures.turn c.requires.listener.number
    c.accept-taken.ensures.ok c.accept-taken.ensures.err c.accept-taken.ensures.entries

pub returns-in-Ok-clause-listener : goal.returns-in-Ok-clause-listener
returns-in-Ok-clause-listener g c = listener_then _ _ _ _ _ c.turn-turn.ensures.turn c.done.ensures.given c.requires.listener

pub returns-in-Ok-clause-turn : goal.returns-in-Ok-clause-turn
returns-in-Ok-clause-turn g c =
    accepted_turn _ _ _ c.turn-turn.result.kept c.accept-taken.new.self c.in-Ok.taken.name c.in-Ok.taken.child c.in-Ok.taken.generation c.turns_rest_on_these.ensures
    c.turn-turn.ensures.turn c.done.ensures.given c.requires.listener.number
    (made_added 0 (event.Accept c.in-Ok.taken.name.slot) c.turn-turn.result.kept c.accept-taken.new.self c.accept-taken.new.self.conns c.in-Ok.ensures.ok c.accept-taken.ensures.entries)
    c.show.ensures.state c.in-Ok.ensures.taken

pub returns-in-Ok-clause-taken : goal.returns-in-Ok-clause-taken
returns-in-Ok-clause-taken g c =
    has_taken _ _ _ c.turn-turn.result.kept c.accept-taken.new.self c.in-Ok.taken.name c.in-Ok.taken.child c.in-Ok.taken.generation
    c.others_leave_the_rest_to_the_listener.ensures c.connections_go_to_the_chosen_child.ensures c.turns_rest_on_these.ensures
    c.turn-turn.ensures.turn c.done.ensures.given c.requires.listener.number
    (made_added 0 (event.Accept c.in-Ok.taken.name.slot) c.turn-turn.result.kept c.accept-taken.new.self c.accept-taken.new.self.conns c.in-Ok.ensures.ok c.accept-taken.ensures.entries)
    c.show.ensures.state c.show-2.ensures.run c.show-2.ensures.sound c.in-Ok.ensures.taken

pub returns-in-Err-clause-listener : goal.returns-in-Err-clause-listener
returns-in-Err-clause-listener g c = listener_then _ _ _ _ _ c.turn-turn.ensures.turn c.done.ensures.given c.requires.listener

pub returns-in-Err-clause-err : goal.returns-in-Err-clause-err
returns-in-Err-clause-err g c = (_, had_none_as _ _ _ c.turn-turn.result.kept c.accept-taken.new.self c.turn-turn.ensures.turn c.done.ensures.given c.in-Err.ensures.err)

pub returns-in-Err-clause-why : goal.returns-in-Err-clause-why
returns-in-Err-clause-why g c =
    not_taken_then _ _ _ c.turn-turn.result.kept c.accept-taken.new.self c.in-Err.fault c.turns_rest_on_these.ensures c.turn-turn.ensures.turn c.done.ensures.given
    c.in-Err.ensures.err c.show.ensures.state c.in-Err.ensures.why

pub returns-in-Err-clause-no_row : goal.returns-in-Err-clause-no_row
returns-in-Err-clause-no_row g c =
    nothing_row_as _ _ _ c.turn-turn.result.kept c.accept-taken.new.self c.turns_rest_on_these.ensures c.turn-turn.ensures.turn c.done.ensures.given c.in-Err.ensures.err
    ∙ c.requires.none
