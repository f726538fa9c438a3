use Rattle.conn_machine.proofs.BetweenTurnsLaw.{quiet_is_the_listeners}
use Rattle.conn_machine.proofs.laws_between_turns.quiet_tables_are_the_listeners.Goals as goal

pub returns : goal.returns
returns c = quiet_is_the_listeners
