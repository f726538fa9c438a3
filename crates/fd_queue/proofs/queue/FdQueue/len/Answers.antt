use Rattle.fd_queue.proofs.Moves.{stood}
use Rattle.fd_queue.proofs.queue.FdQueue.len.Goals as goal

pub len_as-requires-clause-rule : goal.len_as-requires-clause-rule
len_as-requires-clause-rule g c = stood _ _
