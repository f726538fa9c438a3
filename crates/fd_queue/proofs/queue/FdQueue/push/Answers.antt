use Rattle.fd_queue.proofs.Moves.{puts, stood}
use Rattle.fd_queue.proofs.queue.FdQueue.push.Goals as goal

pub push_as-requires-clause-rule : goal.push_as-requires-clause-rule
push_as-requires-clause-rule g c = (puts _ _ _ _, stood _ _)
