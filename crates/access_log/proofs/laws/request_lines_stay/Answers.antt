use Rattle.access_log.proofs.RequestLineLemmas.{head_stays, refusal_stays}
use Rattle.access_log.proofs.laws.request_lines_stay.Goals as goal

pub returns-clause-whole : goal.returns-clause-whole
returns-clause-whole c = head_stays

pub returns-clause-refused : goal.returns-clause-refused
returns-clause-refused c = refusal_stays
