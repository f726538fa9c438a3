use Rattle.listener_hands.proofs.ClosingLemmas.{closes_as}
use Rattle.listener_hands.proofs.closing.close.Goals as goal

pub returns : goal.returns
returns g c =
    closes_as c.turns_rest_on_these.ensures c.quiet_tables_are_the_listeners.ensures g.N.Known.known _ c.close-board.result c.close-board.ensures.0
    c.close-board.ensures.1 c.requires.listener.number c.requires.opened c.requires.none c.requires.dropped c.show.ensures.state
