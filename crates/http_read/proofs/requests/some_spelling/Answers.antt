use Rattle.http_read.proofs.SomeItemsLemmas.{some_items}
use Rattle.http_read.proofs.requests.some_spelling.Goals as goal

pub returns : goal.returns
returns c = λ limits bytes. let items = some_items limits bytes in (items.requests, items.refusal, items.rest, items.are)
