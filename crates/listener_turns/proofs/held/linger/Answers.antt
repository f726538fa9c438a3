use Rattle.std.proofs.Common.{sym}
use Rattle.conn_machine.specs.declared.event.Event.TheVariants as event
use Rattle.board_turns.proofs.FoundLemmas.{pass_as, row_as}
use Rattle.board_turns.proofs.GoesOnLemmas.{made, may_leave}
use Rattle.board_turns.proofs.ThenLemmas.{listens_then, row_then}
use Rattle.board_turns.proofs.TurnLemmas.{had_one}
use Rattle.listener_turns.proofs.ListenerLemmas.{lingerable_here, own_edition}
use Rattle.listener_turns.proofs.held.linger.Goals as goal

pub linger-requires-clause-who : goal.linger-requires-clause-who
linger-requires-clause-who g c = pass_as _ _ c.turn-turn.result.kept 0 c.turn-turn.ensures.turn (sym c.requires.holds.number)

pub linger-requires-clause-row : goal.linger-requires-clause-row
linger-requires-clause-row g c = row_as _ _ c.turn-turn.result.kept 0 _ c.turns_rest_on_these.ensures c.turn-turn.ensures.turn (sym c.requires.holds.number) c.requires.holds.row

pub linger-requires-clause-allowed : goal.linger-requires-clause-allowed
linger-requires-clause-allowed g c =
    (lingerable_here g.N.Known.known _ _ c.turn-turn.result.kept c.args.conn c.others_leave_the_rest_to_the_listener.ensures c.turns_rest_on_these.ensures c.turn-turn.ensures.turn
    c.show.ensures.state c.requires.holds c.args.cause c.requires.may).allowed

pub linger-requires-clause-fits : goal.linger-requires-clause-fits
linger-requires-clause-fits g c =
    let may = lingerable_here g.N.Known.known _ _ c.turn-turn.result.kept c.args.conn c.others_leave_the_rest_to_the_listener.ensures c.turns_rest_on_these.ensures c.turn-turn.ensures.turn
    c.show.ensures.state c.requires.holds c.args.cause c.requires.may in
    record { row = may.row; found = may.found; fits = may.fits }

pub linger-requires-clause-half_closed : goal.linger-requires-clause-half_closed
linger-requires-clause-half_closed g c = c.requires.may.shut

pub linger-requires-clause-shows : goal.linger-requires-clause-shows
linger-requires-clause-shows g c = c.requires.may.shows

pub linger-requires-clause-edition : goal.linger-requires-clause-edition
linger-requires-clause-edition g c =
    let may = lingerable_here g.N.Known.known _ _ c.turn-turn.result.kept c.args.conn c.others_leave_the_rest_to_the_listener.ensures c.turns_rest_on_these.ensures c.turn-turn.ensures.turn
    c.show.ensures.state c.requires.holds c.args.cause c.requires.may in
    own_edition g.N.Known.known _ _ c.turn-turn.result.kept c.args.conn may.row c.turns_rest_on_these.ensures c.turn-turn.ensures.turn c.show.ensures.sound
    c.show_editions.ensures.used may.found may.fits.generation c.requires.holds

pub done-requires-clause-left : goal.done-requires-clause-left
done-requires-clause-left g c =
    may_leave _ _ 0 (event.Linger c.args.conn.name c.args.cause) c.turn-turn.result.kept c.linger.new.self c.turns_rest_on_these.ensures c.turn-turn.ensures.turn
    c.requires.holds.number (made 0 _ c.turn-turn.result.kept c.linger.new.self _ c.linger.ensures.is c.linger.ensures.entries) tt

pub returns-clause-listener : goal.returns-clause-listener
returns-clause-listener g c =
    listens_then _ _ _ _ _ c.turn-turn.ensures.turn c.done.ensures.given c.requires.holds.number

pub returns-clause-turn : goal.returns-clause-turn
returns-clause-turn g c = (
  _,
  had_one _ _ _ 0 (event.Linger c.args.conn.name c.args.cause) c.turn-turn.result.kept c.linger.new.self c.turns_rest_on_these.ensures c.turn-turn.ensures.turn
      c.done.ensures.given c.requires.holds.number (made 0 _ c.turn-turn.result.kept c.linger.new.self _ c.linger.ensures.is c.linger.ensures.entries),
)

pub returns-clause-none : goal.returns-clause-none
returns-clause-none g c =
    row_then _ _ _ 0 (event.Linger c.args.conn.name c.args.cause) c.turn-turn.result.kept c.linger.new.self c.turns_rest_on_these.ensures c.turn-turn.ensures.turn
    c.done.ensures.given c.requires.holds.number (made 0 _ c.turn-turn.result.kept c.linger.new.self _ c.linger.ensures.is c.linger.ensures.entries)
