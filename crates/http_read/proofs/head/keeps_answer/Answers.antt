use Rattle.http_read.proofs.KeptLemmas.{head_kept, refusal_kept}
use Rattle.http_read.proofs.head.keeps_answer.Goals as goal

pub returns-clause-whole : goal.returns-clause-whole
returns-clause-whole c = head_kept

pub returns-clause-refused : goal.returns-clause-refused
returns-clause-refused c = refusal_kept
