use Rattle.access_log.proofs.ReadingLemmas.{apart}
use Rattle.access_log.proofs.laws.lines_are_apart.Goals as goal

pub returns : goal.returns
returns c = apart
