use Rattle.std.proofs.Common.{sym, is_ok}
use Rattle.conn_machine.specs.declared.event.Event.TheVariants as event
use Rattle.board_turns.proofs.FoundLemmas.{pass_as, row_as}
use Rattle.board_turns.proofs.GoesOnLemmas.{changed, may_change}
use Rattle.board_turns.proofs.ThenLemmas.{listens_then}
use Rattle.board_turns.proofs.TurnLemmas.{parked_turn, unparked_turn, unparked_why}
use Rattle.listener_turns.proofs.HeldLemmas.{parks_held, parks_none, parks_stays}
use Rattle.listener_turns.proofs.ListenerLemmas.{own_edition, waits_here}
use Rattle.listener_turns.proofs.held.park.Goals as goal

pub park-parked-requires-clause-who : goal.park-parked-requires-clause-who
park-parked-requires-clause-who g c = pass_as _ _ c.turn-turn.result.kept 0 c.turn-turn.ensures.turn (sym c.requires.holds.number)

pub park-parked-requires-clause-row : goal.park-parked-requires-clause-row
park-parked-requires-clause-row g c = row_as _ _ c.turn-turn.result.kept 0 _ c.turns_rest_on_these.ensures c.turn-turn.ensures.turn (sym c.requires.holds.number) c.requires.holds.row

pub park-parked-requires-clause-allowed : goal.park-parked-requires-clause-allowed
park-parked-requires-clause-allowed g c going =
    (waits_here g.N.Known.known _ _ c.turn-turn.result.kept c.args.conn c.others_leave_the_rest_to_the_listener.ensures c.turns_rest_on_these.ensures c.turn-turn.ensures.turn
    c.show.ensures.state c.requires.holds c.args.kind c.requires.may).allowed going

pub park-parked-requires-clause-fits : goal.park-parked-requires-clause-fits
park-parked-requires-clause-fits g c =
    (waits_here g.N.Known.known _ _ c.turn-turn.result.kept c.args.conn c.others_leave_the_rest_to_the_listener.ensures c.turns_rest_on_these.ensures c.turn-turn.ensures.turn
    c.show.ensures.state c.requires.holds c.args.kind c.requires.may).fits

pub park-parked-requires-clause-settled : goal.park-parked-requires-clause-settled
park-parked-requires-clause-settled g c =
    (waits_here g.N.Known.known _ _ c.turn-turn.result.kept c.args.conn c.others_leave_the_rest_to_the_listener.ensures c.turns_rest_on_these.ensures c.turn-turn.ensures.turn
    c.show.ensures.state c.requires.holds c.args.kind c.requires.may).settled

pub park-parked-requires-clause-turned : goal.park-parked-requires-clause-turned
park-parked-requires-clause-turned g c =
    (waits_here g.N.Known.known _ _ c.turn-turn.result.kept c.args.conn c.others_leave_the_rest_to_the_listener.ensures c.turns_rest_on_these.ensures c.turn-turn.ensures.turn
    c.show.ensures.state c.requires.holds c.args.kind c.requires.may).turned

pub park-parked-requires-clause-backed : goal.park-parked-requires-clause-backed
park-parked-requires-clause-backed g c =
    (waits_here g.N.Known.known _ _ c.turn-turn.result.kept c.args.conn c.others_leave_the_rest_to_the_listener.ensures c.turns_rest_on_these.ensures c.turn-turn.ensures.turn
    c.show.ensures.state c.requires.holds c.args.kind c.requires.may).backed

pub park-parked-requires-clause-edition : goal.park-parked-requires-clause-edition
park-parked-requires-clause-edition g c =
    let fits = (waits_here g.N.Known.known _ _ c.turn-turn.result.kept c.args.conn c.others_leave_the_rest_to_the_listener.ensures c.turns_rest_on_these.ensures c.turn-turn.ensures.turn
    c.show.ensures.state c.requires.holds c.args.kind c.requires.may).fits in
    own_edition g.N.Known.known _ _ c.turn-turn.result.kept c.args.conn fits.row c.turns_rest_on_these.ensures c.turn-turn.ensures.turn c.show.ensures.sound
    c.show_editions.ensures.used fits.found fits.fits.generation c.requires.holds

pub done-requires-clause-left : goal.done-requires-clause-left
done-requires-clause-left g c =
    let q = c.park-parked in
    let e = event.Park c.args.conn.name c.args.kind in
    may_change _ _ 0 (is_ok q.result) e c.turn-turn.result.kept q.new.self c.turns_rest_on_these.ensures c.turn-turn.ensures.turn c.requires.holds.number
    (changed q.result 0 e c.turn-turn.result.kept q.new.self c.turn-turn.result.kept.conns q.ensures.ok q.ensures.err q.ensures.entries) tt

pub returns-clause-listener : goal.returns-clause-listener
returns-clause-listener g c =
    listens_then _ _ _ _ _ c.turn-turn.ensures.turn c.done.ensures.given c.requires.holds.number

pub returns-clause-turn : goal.returns-clause-turn
returns-clause-turn g c =
    let q = c.park-parked in
    parked_turn _ _ _ 0 c.turn-turn.result.kept q.new.self (event.Park c.args.conn.name c.args.kind) c.turn-turn.result.kept.conns q.result c.turns_rest_on_these.ensures c.turn-turn.ensures.turn
    c.done.ensures.given c.requires.holds.number q.ensures.ok q.ensures.entries

pub returns-clause-none : goal.returns-clause-none
returns-clause-none g c =
    let q = c.park-parked in
    parks_none _ _ _ c.turn-turn.result.kept q.new.self c.args.conn c.args.kind q.result c.turns_rest_on_these.ensures c.turn-turn.ensures.turn
    c.done.ensures.given c.requires.holds.number q.ensures.ok q.ensures.entries

pub returns-clause-err : goal.returns-clause-err
returns-clause-err g c =
    let q = c.park-parked in
    unparked_turn _ _ _ c.turn-turn.result.kept q.new.self q.result c.turn-turn.ensures.turn c.done.ensures.given q.ensures.err

pub returns-clause-why : goal.returns-clause-why
returns-clause-why g c =
    let q = c.park-parked in
    unparked_why _ _ _ c.turn-turn.result.kept q.new.self q.result c.turns_rest_on_these.ensures c.turn-turn.ensures.turn c.done.ensures.given q.ensures.err
    c.show.ensures.state q.ensures.why

pub returns-clause-held : goal.returns-clause-held
returns-clause-held g c =
    let q = c.park-parked in
    parks_held g.N.Known.known _ _ _ c.turn-turn.result.kept q.new.self c.args.conn q.result c.turns_rest_on_these.ensures c.turn-turn.ensures.turn c.done.ensures.given
    q.ensures.err q.ensures.back c.show.ensures.state c.show.ensures.sound c.requires.holds

pub returns-clause-stays : goal.returns-clause-stays
returns-clause-stays g c =
    let q = c.park-parked in
    parks_stays g.N.Known.known _ _ _ c.turn-turn.result.kept q.new.self c.args.conn q.result c.turns_rest_on_these.ensures c.turn-turn.ensures.turn
    c.done.ensures.given q.ensures.err c.show.ensures.state c.requires.holds
