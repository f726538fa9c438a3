use Rattle.script_front.proofs.EditionLemmas.{later_have_conf}
use Rattle.script_front.proofs.editions.editions_have_a_configuration.Goals as goal

pub returns-clause-later : goal.returns-clause-later
returns-clause-later c = later_have_conf
