use Rattle.std.proofs.Common.{◌≡◌, ◌∷◌, ◌++◌, length, ap, ◌∙◌, arith}
use Rattle.std.proofs.lemmas.Bool.Decides.{nat_tests}
use Rattle.file_table.specs.Resource.{place_of_file}
use Rattle.file_table.specs.Site.{SeenHost, folder_at}
use Rattle.file_table.proofs.ResourceLemmas.{index_place, further_place}
use Rattle.file_table.proofs.resource.place_of_index.Goals as goal

pub returns-then-is_empty : goal.returns-then-is_empty
returns-then-is_empty c =
    let name = c.args.name.now in
    let folder = folder_at c.args.site.now c.args.host in
    let empty : length name ≡ 0 = grind (arith, nat_tests) in
    c.place_of_file.ensures ∙ ap (λ files. place_of_file (name ++ c.index.result.now) files) c.files_of.ensures.files
    ∙ ap (λ n. place_of_file n folder.files) (ap (λ i. name ++ i) (c.index.ensures ∙ ap (λ (h : SeenHost). h.index) c.host.ensures) ∙ index_place name folder.index empty)

pub returns-else-is_empty : goal.returns-else-is_empty
returns-else-is_empty c =
    let name = c.args.name.now in
    let folder = folder_at c.args.site.now c.args.host in
    c.place_of_file-else-is_empty.ensures ∙ ap (λ files. place_of_file (name ++ c.slash_index.result.now) files) c.files_of-else-is_empty.ensures.files
    ∙ ap (λ n. place_of_file n folder.files) (ap (λ i. name ++ i) (c.slash_index.ensures ∙ ap (λ (h : SeenHost). 47 ∷ h.index) c.host-else-is_empty.ensures) ∙ further_place name folder.index (grind (arith, nat_tests)))
