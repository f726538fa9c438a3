use Rattle.http_read.proofs.RequestLemmas.{same_items}
use Rattle.http_read.proofs.requests.one_spelling.Goals as goal

pub returns-clause-requests : goal.returns-clause-requests
returns-clause-requests c limits bytes requests others refusal other rest left h k =
    (same_items c.one_answer.ensures c.one_form.ensures.one limits bytes requests others refusal other rest left h.spelled h.left k.spelled k.left).same_requests

pub returns-clause-refusal : goal.returns-clause-refusal
returns-clause-refusal c limits bytes requests others refusal other rest left h k =
    (same_items c.one_answer.ensures c.one_form.ensures.one limits bytes requests others refusal other rest left h.spelled h.left k.spelled k.left).same_refusal

pub returns-clause-rest : goal.returns-clause-rest
returns-clause-rest c limits bytes requests others refusal other rest left h k =
    (same_items c.one_answer.ensures c.one_form.ensures.one limits bytes requests others refusal other rest left h.spelled h.left k.spelled k.left).same_rest
