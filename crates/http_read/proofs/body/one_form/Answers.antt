use Rattle.http_read.proofs.FormLemmas.{some_form, same_forms}
use Rattle.http_read.proofs.body.one_form.Goals as goal

pub returns-clause-some : goal.returns-clause-some
returns-clause-some c = some_form

pub returns-clause-one : goal.returns-clause-one
returns-clause-one c = same_forms
