use Rattle.fd_queue.proofs.Moves.{stood, takes}
use Rattle.fd_queue.proofs.queue.FdQueue.pop.Goals as goal

pub pop_as-requires-clause-rule : goal.pop_as-requires-clause-rule
pop_as-requires-clause-rule g c = (takes _ _, stood _ _)
