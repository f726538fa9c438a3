use Rattle.worker_group.proofs.ServeLemmas.{closable}
use Rattle.worker_group.proofs.laws.connections_in_hand_may_be_closed.Goals as goal

pub returns : goal.returns
returns c = closable
