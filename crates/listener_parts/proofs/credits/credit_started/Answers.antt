use Rattle.std.proofs.Common.{None}
use Rattle.listener_parts.proofs.AloneLemmas.{alone_same}
use Rattle.listener_parts.proofs.DidLemmas.{did_nothing}
use Rattle.listener_parts.proofs.credits.credit_started.Goals as goal

pub returns-else-child-lt-CHILDREN-clause-did : goal.returns-else-child-lt-CHILDREN-clause-did
returns-else-child-lt-CHILDREN-clause-did g c = did_nothing c.args.pass.now.seat.me.0 None c.requires.none

pub returns-else-child-lt-CHILDREN-clause-rest : goal.returns-else-child-lt-CHILDREN-clause-rest
returns-else-child-lt-CHILDREN-clause-rest g c = alone_same _
