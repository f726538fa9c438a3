use Rattle.conn_machine.proofs.NameLaw.{closed_dead}
use Rattle.conn_machine.proofs.laws.closed_names_stay_closed.Goals as goal

pub returns : goal.returns
returns c = closed_dead
