use Rattle.worker_threads.proofs.ServingLemmas.{has_permit_as, served_all}
use Rattle.worker_threads.proofs.serving.serve.Goals as goal

pub returns-clause-permit : goal.returns-clause-permit
returns-clause-permit g c = has_permit_as c.args.conn.child _ _ c.converse-way.ensures.conversed.1.child c.leave.ensures.permit

pub returns-clause-served : goal.returns-clause-served
returns-clause-served g c =
    served_all _ _ _ _ c.args.conn c.converse-way.new.conn c.converse-way.result c.leave.result (c.start.ensures.turn.0, c.start.ensures.turn.1)
    c.converse-way.ensures.conversed c.converse-way.ensures.exits c.leave.ensures.left c.leave.ensures.turns
