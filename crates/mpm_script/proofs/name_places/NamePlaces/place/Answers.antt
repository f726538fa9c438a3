use Rattle.mpm_script.proofs.NamePlaceLemmas.{missing_if, named_if}
use Rattle.mpm_script.proofs.name_places.NamePlaces.place.Goals as goal

pub returns-clause-named : goal.returns-clause-named
returns-clause-named c = named_if c.args.name.now c.args.self.now c.found.result c.found.ensures

pub returns-clause-missing : goal.returns-clause-missing
returns-clause-missing c = missing_if c.args.name.now c.args.self.now c.found.result c.found.ensures
