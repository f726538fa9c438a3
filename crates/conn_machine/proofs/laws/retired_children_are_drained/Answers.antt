use Rattle.conn_machine.proofs.LawLemmas.{retired-drained}
use Rattle.conn_machine.proofs.laws.retired_children_are_drained.Goals as goal

pub returns : goal.returns
returns c = retired-drained
