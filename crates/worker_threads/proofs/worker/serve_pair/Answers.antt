use Rattle.worker_threads.proofs.WorkingLemmas.{served_so}
use Rattle.worker_threads.proofs.worker.serve_pair.Goals as goal

pub returns-clause-served : goal.returns-clause-served
returns-clause-served g c = served_so c.serve_one-left.result _ _ _ _ c.serve_one-left.ensures.steps c.offer.ensures.offers
