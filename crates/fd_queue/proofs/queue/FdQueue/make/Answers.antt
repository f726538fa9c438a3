use Rattle.fd_queue.proofs.Moves.{begins}
use Rattle.fd_queue.proofs.queue.FdQueue.make.Goals as goal

pub ruled-requires-clause-rule : goal.ruled-requires-clause-rule
ruled-requires-clause-rule g c = begins
