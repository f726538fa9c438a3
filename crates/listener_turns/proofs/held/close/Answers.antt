use Rattle.std.proofs.Common.{Some, ap, sym, ◌∙◌}
use Rattle.mpm_base.specs.declared.conn.ConnName.{ConnName}
use Rattle.conn_machine.specs.declared.event.Event.TheVariants as event
use Rattle.worker_group.proofs.ExitLemmas.{closing-ended}
use Rattle.board_turns.proofs.FoundLemmas.{pass_as, row_as}
use Rattle.board_turns.proofs.GoesOnLemmas.{made_close, may_leave}
use Rattle.board_turns.proofs.ThenLemmas.{listens_then, row_then}
use Rattle.board_turns.proofs.TurnLemmas.{had_event}
use Rattle.listener_turns.proofs.ListenerLemmas.{closable_here, close_allowed, closed_as, own_edition}
use Rattle.listener_turns.proofs.held.close.Goals as goal

pub end-ended-requires : goal.end-ended-requires
end-ended-requires g c = record { shown = c.requires.may.shown }

pub close-requires-clause-who : goal.close-requires-clause-who
close-requires-clause-who g c = pass_as _ _ c.turn-turn.result.kept 0 c.turn-turn.ensures.turn (sym c.requires.holds.number)

pub close-requires-clause-row : goal.close-requires-clause-row
close-requires-clause-row g c =
    row_as _ _ c.turn-turn.result.kept 0 _ c.turns_rest_on_these.ensures c.turn-turn.ensures.turn (sym c.requires.holds.number)
    (c.requires.holds.row ∙ ap (λ (n : ConnName). Some n) (sym c.end-ended.ensures.ends.name))

pub close-requires-clause-allowed : goal.close-requires-clause-allowed
close-requires-clause-allowed g c =
    close_allowed c.turn-turn.result.kept.book.state c.args.cause c.args.tail c.args.conn c.end-ended.result
    (closable_here g.N.Known.known _ _ c.turn-turn.result.kept c.args.conn c.others_leave_the_rest_to_the_listener.ensures c.turns_rest_on_these.ensures c.turn-turn.ensures.turn
    c.show.ensures.state c.requires.holds c.args.cause c.args.tail c.requires.may) c.end-ended.ensures.ends

pub close-requires-clause-fits : goal.close-requires-clause-fits
close-requires-clause-fits g c =
    closing-ended c.turn-turn.result.kept.book.state c.args.cause c.args.tail c.args.conn c.end-ended.result
    (closable_here g.N.Known.known _ _ c.turn-turn.result.kept c.args.conn c.others_leave_the_rest_to_the_listener.ensures c.turns_rest_on_these.ensures c.turn-turn.ensures.turn
    c.show.ensures.state c.requires.holds c.args.cause c.args.tail c.requires.may) c.end-ended.ensures.ends

pub close-requires-clause-edition : goal.close-requires-clause-edition
close-requires-clause-edition g c =
    let may = closable_here g.N.Known.known _ _ c.turn-turn.result.kept c.args.conn c.others_leave_the_rest_to_the_listener.ensures c.turns_rest_on_these.ensures c.turn-turn.ensures.turn
    c.show.ensures.state c.requires.holds c.args.cause c.args.tail c.requires.may in
    rw (c.end-ended.ensures.ends.generation, c.end-ended.ensures.ends.limits, c.end-ended.ensures.ends.site)
    (own_edition g.N.Known.known _ _ c.turn-turn.result.kept c.args.conn may.row c.turns_rest_on_these.ensures c.turn-turn.ensures.turn c.show.ensures.sound
    c.show_editions.ensures.used may.found may.generation c.requires.holds)

pub done-requires-clause-left : goal.done-requires-clause-left
done-requires-clause-left g c =
    may_leave _ _ 0 (event.Close c.end-ended.result.name c.end-ended.result.cause c.end-ended.result.tail) c.turn-turn.result.kept c.close.new.self
    c.turns_rest_on_these.ensures c.turn-turn.ensures.turn c.requires.holds.number
    (made_close 0 c.end-ended.result c.turn-turn.result.kept c.close.new.self c.close.ensures.is c.close.ensures.entries) tt

pub returns-clause-listener : goal.returns-clause-listener
returns-clause-listener g c =
    listens_then _ _ _ _ _ c.turn-turn.ensures.turn c.done.ensures.given c.requires.holds.number

pub returns-clause-turn : goal.returns-clause-turn
returns-clause-turn g c =
    had_event _ _ _ 0 (event.Close c.end-ended.result.name c.end-ended.result.cause c.end-ended.result.tail)
    (event.Close c.args.conn.name c.args.cause c.args.tail) c.turn-turn.result.kept c.close.new.self c.turns_rest_on_these.ensures c.turn-turn.ensures.turn c.done.ensures.given c.requires.holds.number
    (made_close 0 c.end-ended.result c.turn-turn.result.kept c.close.new.self c.close.ensures.is c.close.ensures.entries)
    (closed_as c.args.conn c.args.cause c.args.tail c.end-ended.result c.end-ended.ensures.ends)

pub returns-clause-none : goal.returns-clause-none
returns-clause-none g c =
    row_then _ _ _ 0 (event.Close c.end-ended.result.name c.end-ended.result.cause c.end-ended.result.tail) c.turn-turn.result.kept c.close.new.self
    c.turns_rest_on_these.ensures c.turn-turn.ensures.turn c.done.ensures.given c.requires.holds.number
    (made_close 0 c.end-ended.result c.turn-turn.result.kept c.close.new.self c.close.ensures.is c.close.ensures.entries)
