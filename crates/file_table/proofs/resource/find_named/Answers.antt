use Rattle.std.proofs.Common.{◌∙◌, sym}
use Rattle.file_table.specs.Site.{folder_at}
use Rattle.file_table.proofs.ResourceLemmas.{folder_named}
use Rattle.file_table.proofs.resource.find_named.Goals as goal

pub returns-then-names_folder : goal.returns-then-names_folder
returns-then-names_folder c =
    c.find_index.ensures ∙ folder_named (folder_at c.args.site.now c.args.host) c.args.path.now c.args.name.now c.requires.dots (sym c.if-names_folder.ensures) c.requires.name
