-- The extension of a name, from its end, and what a path names, from its segments.
use Rattle.std.proofs.Common.{◌≡◌, ℕ, ◌<◌, Bool, true, false, not, ◌||◌, cond, ltb, List, [], ◌∷◌, ◌++◌, length, length-drop, drop, Option, Some, None, refl, sym, ap, ◌∙◌, subst, arith, if◌then◌else◌}
use Rattle.std.proofs.lemmas.Bool.Decides.{nat_tests}
use Rattle.std.proofs.lemmas.List.{append-nil, length-take, nil_from_length}
use Rattle.mpm_base.specs.declared.store.File.{File}
use Rattle.file_table.specs.declared.found.Found.{Found}
use Rattle.file_table.specs.declared.found.Found.TheVariants as found
use Rattle.std.specs.List.{slice_split, position_or_len}
use Rattle.std.specs.Str.{bytes_eq}
use Rattle.percent_encoding.specs.Percent.{percent_decode}
use Rattle.std.proofs.lemmas.Option.{cond_some}
use borrow.Author.Tests.{ltb-true}
use Rattle.file_table.specs.Path.{has_dot_segment, has_escaped_slash, has_nul, has_whole_escapes, is_slash, name_of_segments, names_folder, segments}
use Rattle.file_table.specs.PathInside.{further_name}
use Rattle.file_table.specs.Resource.{IsFoundFor, IsFoundIn, file_or, folder_path, has_files_under, place_of_file, placed_behind, resource_in, resource_of, resource_of_decoded, resource_of_folder, resource_of_name}
use Rattle.file_table.specs.Site.{SeenFolder, SeenSite, folder_at, host_at}
use Rattle.file_table.proofs.PathLemmas.{all_segments, further_segment}

-- a name with nothing behind it
pub same_place : (name : List ℕ) (files : List File) (answer : Option ℕ) → answer ≡ place_of_file (name ++ []) files → place_of_file name files ≡ answer
same_place name files answer e = ap (λ n. place_of_file n files) (sym (append-nil name)) ∙ sym e

pub named_file : (folder : SeenFolder) (name : List ℕ) (place : ℕ) → place_of_file name folder.files ≡ Some place → resource_of_name folder name ≡ found.File place
named_file folder name place e = rw e refl

pub named_folder : (folder : SeenFolder) (name : List ℕ) → place_of_file name folder.files ≡ None
    → resource_of_name folder name ≡ (if has_files_under name folder.files then found.Redirect (folder_path name) else found.Missing)
named_folder folder name e = rw e refl

pub index_place : (name index : List ℕ) → length name ≡ 0 → name ++ index ≡ further_name name index
index_place name index h = rw (nil_from_length name h) refl

pub further_place : (name index : List ℕ) → 0 < length name → name ++ 47 ∷ index ≡ further_name name index
further_place name index h = grind (arith, nat_tests)

-- what the segments of a folder's path stand for
pub folder_named : (folder : SeenFolder) (path name : List ℕ) → has_dot_segment path ≡ false → names_folder path ≡ true → name ≡ name_of_segments (segments path)
    → file_or (place_of_file (further_name name folder.index) folder.files) found.Missing ≡ resource_of_decoded folder path
folder_named folder path name dots ends e =
    let whole = further_segment (segments path) folder.index (all_segments (slice_split is_slash path)) in
    rw (dots, ends) (ap (λ n. file_or (place_of_file n folder.files) found.Missing) (ap (λ n. further_name n folder.index) e ∙ sym whole))

position_within : (name : List ℕ) (files : List File) (i : ℕ) → place_of_file name files ≡ Some i → i < length files
position_within name files i e =
    let first = position_or_len (λ (f : File). bytes_eq f.name name) files in
    let parts = cond_some (ltb first (length files)) first i e in
    subst (λ k. k < length files) parts.1 (ltb-true first (length files) parts.0)

file_in : (folder : SeenFolder) (place : Option ℕ) (other : Found) → ((i : ℕ) → place ≡ Some i → i < length folder.files) → IsFoundIn folder other → IsFoundIn folder (file_or place other)
file_in folder None other h k = k
file_in folder (Some i) other h k = h i refl

either_in : (folder : SeenFolder) (b : Bool) (x y : Found) → IsFoundIn folder x → IsFoundIn folder y → IsFoundIn folder (cond b x y)
either_in folder true x y h k = h
either_in folder false x y h k = k

name_in : (folder : SeenFolder) (name : List ℕ) → IsFoundIn folder (resource_of_name folder name)
name_in folder name =
    file_in folder (place_of_file name folder.files) (cond (has_files_under name folder.files) (found.Redirect (folder_path name)) found.Missing) (position_within name folder.files)
    (either_in folder (has_files_under name folder.files) (found.Redirect (folder_path name)) found.Missing tt tt)

folder_in : (folder : SeenFolder) (parts : List (List ℕ)) → IsFoundIn folder (resource_of_folder folder parts)
folder_in folder parts =
    let name = name_of_segments (parts ++ folder.index ∷ []) in
    file_in folder (place_of_file name folder.files) found.Missing (position_within name folder.files) tt

decoded_in : (folder : SeenFolder) (path : List ℕ) → IsFoundIn folder (resource_of_decoded folder path)
decoded_in folder path =
    let named = resource_of_folder folder (segments path) in
    let name = resource_of_name folder (name_of_segments (segments path)) in
    either_in folder (has_dot_segment path) found.BadPath (cond (names_folder path) named name) tt
    (either_in folder (names_folder path) named name (folder_in folder (segments path)) (name_in folder (name_of_segments (segments path))))

path_in : (folder : SeenFolder) (path : List ℕ) → IsFoundIn folder (resource_in folder path)
path_in folder path =
    let decoded = resource_of_decoded folder (percent_decode path) in
    either_in folder (not (has_whole_escapes path) || has_nul (percent_decode path)) found.BadPath (cond (has_escaped_slash path) found.Missing decoded) tt
    (either_in folder (has_escaped_slash path) found.Missing decoded tt (decoded_in folder (percent_decode path)))

-- a file that a path names is one of the folder
pub found_in : (folder : SeenFolder) (path : List ℕ) (answer : Found) → answer ≡ resource_in folder path → IsFoundIn folder answer
found_in folder path answer e = subst (IsFoundIn folder) (sym e) (path_in folder path)

-- among all files of the site it is one that the host has
placed_for : (site : SeenSite) (host : ℕ) (answer : Found) → IsFoundIn (folder_at site host) answer
    → IsFoundFor site host (placed_behind (host_at site host).part.first answer)
placed_for site host (found.File place) within =
    let part = (host_at site host).part in
    let own = length-take part.count (drop part.first site.files) in
    let rest = length-drop part.first site.files in
    (omega arith, omega (arith, within, own), omega (arith, within, own, rest))
placed_for site host (found.Redirect path) within = tt
placed_for site host found.Missing within = tt
placed_for site host found.BadPath within = tt

pub named_for : (site : SeenSite) (host : ℕ) (path : List ℕ) → IsFoundFor site host (resource_of site host path)
named_for site host path = placed_for site host (resource_in (folder_at site host) path) (path_in (folder_at site host) path)
