use Rattle.file_table.specs.Site.{folder_at}
use Rattle.file_table.proofs.ResourceLemmas.{found_in}
use Rattle.file_table.proofs.resource.find.Goals as goal

pub placed-requires-clause-found : goal.placed-requires-clause-found
placed-requires-clause-found c = found_in (folder_at c.args.site.now c.args.host) c.args.path.now c.in-Ok.found c.in-Ok.ensures
