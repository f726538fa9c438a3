use Rattle.mpm_base.specs.Store.{content_of, names_under}
use Rattle.mpm_base.proofs.OutcomeLemmas.{one_read, one_listing}
use Rattle.mpm_base.proofs.laws.told_stores_have_one_outcome.Goals as goal

pub returns-clause-read : goal.returns-clause-read
returns-clause-read c = λ told k d new new' name most one other p q. one_read (content_of name told.files) most one other p.may q.may

pub returns-clause-names : goal.returns-clause-names
returns-clause-names c = λ told k d new new' folder most one other p q. one_listing (names_under folder told.files) most one other p.may q.may
