use Rattle.access_log.proofs.EscapeLemmas.{escaped_back}
use Rattle.access_log.proofs.laws.escaped_lines_are_read_back.Goals as goal

pub returns : goal.returns
returns c = escaped_back
