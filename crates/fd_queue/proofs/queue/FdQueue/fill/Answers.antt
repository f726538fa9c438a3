use Rattle.fd_queue.proofs.Moves.{forks}
use Rattle.fd_queue.proofs.queue.FdQueue.fill.Goals as goal

pub another-seat-requires-clause-rule : goal.another-seat-requires-clause-rule
another-seat-requires-clause-rule g c = forks _ _
