use Rattle.mpm_config.proofs.TypeLemmas.{configuration-has}
use Rattle.mpm_config.proofs.laws.configured_types_are_printable.Goals as goal

pub returns : goal.returns
returns c = configuration-has
