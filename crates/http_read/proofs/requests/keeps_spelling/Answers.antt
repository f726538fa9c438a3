use Rattle.http_read.proofs.RequestLemmas.{spelled_kept, items_kept}
use Rattle.http_read.proofs.requests.keeps_spelling.Goals as goal

pub returns-clause-requests : goal.returns-clause-requests
returns-clause-requests c =
    spelled_kept c.keeps_answer.ensures.whole c.keeps_answer.ensures.refused c.keeps_form.ensures.whole c.keeps_form.ensures.broken

pub returns-clause-refusal : goal.returns-clause-refusal
returns-clause-refusal c =
    items_kept c.keeps_answer.ensures.whole c.keeps_answer.ensures.refused c.keeps_form.ensures.whole c.keeps_form.ensures.broken
