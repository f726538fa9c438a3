use Rattle.conn_machine.specs.Runs.{after}
use Rattle.table_rule.proofs.ShareLaws.{permits_fit}
use Rattle.table_rule.proofs.laws.permits_are_of_workers.Goals as goal

pub returns : goal.returns
returns g c = λ o s tied k. permits_fit (after o.base tied.history) s.words s.views tied.first.credits tied.idle k
