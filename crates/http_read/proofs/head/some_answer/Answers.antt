use Rattle.http_read.proofs.SomeAnswerLemmas.{some_answer}
use Rattle.http_read.proofs.head.some_answer.Goals as goal

pub returns : goal.returns
returns c = λ limits bytes. let some = some_answer limits bytes in (some.given, some.is, some.known)
