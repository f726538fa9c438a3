use Rattle.http_read.proofs.OneAnswerLemmas.{same_heads}
use Rattle.http_read.proofs.head.one_answer.Goals as goal

pub returns : goal.returns
returns c = same_heads
