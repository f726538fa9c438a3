use Rattle.http_read.proofs.CutLemmas.{next_stands, pieces_answer, same_body_answers}
use Rattle.http_read.proofs.body.cuts_never_matter.Goals as goal

pub returns-clause-stands : goal.returns-clause-stands
returns-clause-stands c = λ of past bytes more n place counts h. next_stands of past bytes more n place counts h.stands

pub returns-clause-pieces : goal.returns-clause-pieces
returns-clause-pieces c = pieces_answer

pub returns-clause-one : goal.returns-clause-one
returns-clause-one c = λ of past bytes a b p q x h y k. same_body_answers of past bytes a b p q x h y k
