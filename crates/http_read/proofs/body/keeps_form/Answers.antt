use Rattle.http_read.proofs.FormLemmas.{whole_more, broken_more}
use Rattle.http_read.proofs.body.keeps_form.Goals as goal

pub returns-clause-whole : goal.returns-clause-whole
returns-clause-whole c = whole_more

pub returns-clause-broken : goal.returns-clause-broken
returns-clause-broken c = broken_more
