use Rattle.std.proofs.Common.{◌++◌, [], sym, ap, ◌∙◌}
use Rattle.std.proofs.lemmas.Result.{IfOk-weaker}
use Rattle.file_table.specs.Resource.{place_of_file}
use Rattle.file_table.specs.Site.{folder_at}
use Rattle.file_table.proofs.ResourceLemmas.{named_file, named_folder, same_place}
use Rattle.file_table.proofs.resource.find_name.Goals as goal

pub returns-in-Some : goal.returns-in-Some
returns-in-Some c =
    let name = c.args.name.now in
    let folder = folder_at c.args.site.now c.args.host in
    let at = same_place name folder.files _ (c.place_of_file.ensures ∙ ap (place_of_file (name ++ [])) c.files_of.ensures.files) ∙ c.in-Some.is in
    c.file_at.ensures ∙ sym (named_file folder name c.in-Some.place at)

pub returns-in-None : goal.returns-in-None
returns-in-None c =
    let name = c.args.name.now in
    let folder = folder_at c.args.site.now c.args.host in
    let none = same_place name folder.files _ (c.place_of_file.ensures ∙ ap (place_of_file (name ++ [])) c.files_of.ensures.files) ∙ c.in-None.is in
    IfOk-weaker c.find_folder.result _ _ (λ found e. e ∙ sym (named_folder folder name none)) c.find_folder.ensures
