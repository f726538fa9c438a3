use Rattle.std.proofs.Common.{sym, is_ok}
use Rattle.conn_machine.specs.declared.event.Event.TheVariants as event
use Rattle.board_turns.specs.Books.{state_of}
use Rattle.board_turns.proofs.FoundLemmas.{pass_as}
use Rattle.board_turns.proofs.GoesOnLemmas.{changed, made_added, may_change}
use Rattle.board_turns.proofs.ThenLemmas.{listener_then, nothing_row_as, row_then}
use Rattle.board_turns.proofs.TurnLemmas.{had_none_as, had_one, refused_then}
use Rattle.listener_turns.proofs.ListenerLemmas.{command_here, only_serves}
use Rattle.listener_turns.proofs.parts.command.Goals as goal

pub command-ordered-requires-clause-who : goal.command-ordered-requires-clause-who
command-ordered-requires-clause-who g c = pass_as _ _ c.turn-turn.result.kept 0 c.turn-turn.ensures.turn (sym c.requires.listener.number)

pub command-ordered-requires-clause-allowed : goal.command-ordered-requires-clause-allowed
command-ordered-requires-clause-allowed g c going =
    command_here (state_of c.args.pass.now.seat.me.0) c.turn-turn.result.kept.book.state c.args.order
    (only_serves _ _ c.turn-turn.result.kept c.others_leave_the_rest_to_the_listener.ensures c.turns_rest_on_these.ensures c.turn-turn.ensures.turn c.requires.listener.number c.show.ensures.state)
    c.requires.goes_on c.requires.allowed going

pub done-requires-clause-left : goal.done-requires-clause-left
done-requires-clause-left g c =
    may_change _ _ 0 (is_ok c.command-ordered.result) (event.Command c.args.order) c.turn-turn.result.kept c.command-ordered.new.self c.turns_rest_on_these.ensures c.turn-turn.ensures.turn c.requires.listener.number
    (changed c.command-ordered.result 0 (event.Command c.args.order) c.turn-turn.result.kept c.command-ordered.new.self c.command-ordered.new.self.conns c.command-ordered.ensures.ok c.command-ordered.ensures.err c.command-ordered.ensures.entries) tt

pub returns-in-Ok-clause-listener : goal.returns-in-Ok-clause-listener
returns-in-Ok-clause-listener g c = listener_then _ _ _ _ _ c.turn-turn.ensures.turn c.done.ensures.given c.requires.listener

pub returns-in-Ok-clause-row : goal.returns-in-Ok-clause-row
returns-in-Ok-clause-row g c =
    row_then _ _ _ 0 (event.Command c.args.order) c.turn-turn.result.kept c.command-ordered.new.self c.turns_rest_on_these.ensures c.turn-turn.ensures.turn c.done.ensures.given c.requires.listener.number
    (made_added 0 (event.Command c.args.order) c.turn-turn.result.kept c.command-ordered.new.self c.command-ordered.new.self.conns c.in-Ok.ensures.ok c.command-ordered.ensures.entries)

pub returns-in-Ok-clause-turn : goal.returns-in-Ok-clause-turn
returns-in-Ok-clause-turn g c = (
  _,
  had_one _ _ _ 0 (event.Command c.args.order) c.turn-turn.result.kept c.command-ordered.new.self c.turns_rest_on_these.ensures c.turn-turn.ensures.turn c.done.ensures.given c.requires.listener.number
      (made_added 0 (event.Command c.args.order) c.turn-turn.result.kept c.command-ordered.new.self c.command-ordered.new.self.conns c.in-Ok.ensures.ok c.command-ordered.ensures.entries),
)

pub returns-in-Err-clause-listener : goal.returns-in-Err-clause-listener
returns-in-Err-clause-listener g c = listener_then _ _ _ _ _ c.turn-turn.ensures.turn c.done.ensures.given c.requires.listener

pub returns-in-Err-clause-row : goal.returns-in-Err-clause-row
returns-in-Err-clause-row g c =
    nothing_row_as _ _ _ c.turn-turn.result.kept c.command-ordered.new.self c.turns_rest_on_these.ensures c.turn-turn.ensures.turn c.done.ensures.given c.in-Err.ensures.err

pub returns-in-Err-clause-err : goal.returns-in-Err-clause-err
returns-in-Err-clause-err g c = (_, had_none_as _ _ _ c.turn-turn.result.kept c.command-ordered.new.self c.turn-turn.ensures.turn c.done.ensures.given c.in-Err.ensures.err)

pub returns-in-Err-clause-why : goal.returns-in-Err-clause-why
returns-in-Err-clause-why g c =
    refused_then _ _ _ c.turn-turn.result.kept c.command-ordered.new.self c.in-Err.fault c.turns_rest_on_these.ensures c.turn-turn.ensures.turn c.done.ensures.given
    c.in-Err.ensures.err c.show.ensures.state c.in-Err.ensures.why
