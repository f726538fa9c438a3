use Rattle.access_log.proofs.RequestLineLemmas.{head_line}
use Rattle.access_log.proofs.laws.request_lines_are_first_lines.Goals as goal

pub returns : goal.returns
returns c = head_line
