use Rattle.access_log.proofs.ReadingLemmas.{read_back}
use Rattle.access_log.proofs.laws.lines_are_read_back.Goals as goal

pub returns : goal.returns
returns c = read_back
