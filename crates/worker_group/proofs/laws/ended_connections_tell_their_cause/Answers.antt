use Rattle.worker_group.proofs.EndedLemmas.{service-ends}
use Rattle.worker_group.proofs.laws.ended_connections_tell_their_cause.Goals as goal

pub returns : goal.returns
returns c = service-ends
