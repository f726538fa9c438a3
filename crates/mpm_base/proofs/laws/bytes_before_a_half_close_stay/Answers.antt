use Rattle.std.proofs.Common.{refl}
use Rattle.mpm_base.proofs.BeforeShutLemmas.{grows_while_open, stays_once_shut, same_after_shut}
use Rattle.mpm_base.proofs.laws.bytes_before_a_half_close_stay.Goals as goal

pub returns-clause-fresh : goal.returns-clause-fresh
returns-clause-fresh c = λ number bytes. refl

pub returns-clause-grows : goal.returns-clause-grows
returns-clause-grows c = grows_while_open

pub returns-clause-shut : goal.returns-clause-shut
returns-clause-shut c = same_after_shut

pub returns-clause-stays : goal.returns-clause-stays
returns-clause-stays c = stays_once_shut
