-- What a path names in a site, for one of its hosts.
-- Why it is so stands in docs/DECISIONS.md: 24, What a path names.
use Rattle.std.specs.Prelude.{ℕ, ◌+◌, ◌<◌, ◌≤◌, ◌==◌, ◌||◌, Bool, not, List, [], ◌∷◌, ◌++◌, length, ⊤, Option, Some, None, position, if◌then◌else◌}
use Rattle.std.specs.List.{flat_map, list_any}
use Rattle.std.specs.Char.{is_ascii_alphanumeric}
use Rattle.std.specs.Str.{bytes_eq}
use Rattle.percent_encoding.specs.Percent.{percent_decode, percent_encode_byte}
use Rattle.mpm_base.specs.declared.store.File.{File}
use Rattle.mpm_base.specs.Store.{lies_under}
use Rattle.file_table.specs.declared.found.Found.{Found}
use Rattle.file_table.specs.declared.found.Found.TheVariants.{File as IsFile, Redirect, Missing, BadPath}
use Rattle.file_table.specs.Path.{has_whole_escapes, has_escaped_slash, has_nul, has_dot_segment, names_folder, name_of_segments, segments}
use Rattle.file_table.specs.Site.{SeenFolder, SeenSite, folder_at, host_at}

-- the place of the first file of that name
abbrev pub place_of_file : List ℕ → List File → Option ℕ
place_of_file name files = position (λ (file : File). bytes_eq file.name name) files

-- some file lies under that name
abbrev pub has_files_under : List ℕ → List File → Bool
has_files_under name files = list_any (λ (file : File). lies_under name file.name) files

-- a byte that a path has unescaped: a letter, a digit, or one of - (45) . (46) _ (95) ~ (126) (RFC 3986, section 2.3)
abbrev pub is_unreserved : ℕ → Bool
is_unreserved b = is_ascii_alphanumeric b || b == 45 || b == 46 || b == 95 || b == 126

-- a byte of a name as a path has it; the slashes between segments stay
abbrev pub escaped_byte : ℕ → List ℕ
escaped_byte b = if is_unreserved b || b == 47 then b ∷ [] else percent_encode_byte b

-- the path of a folder of that name
abbrev pub folder_path : List ℕ → List ℕ
folder_path name = 47 ∷ (flat_map escaped_byte name ++ 47 ∷ [])

-- the file at the place, or else what the second says
abbrev pub file_or : Option ℕ → Found → Found
file_or (Some place) other = IsFile place
file_or None other = other

-- what the folder of these segments stands for: its index file
abbrev pub resource_of_folder : SeenFolder → List (List ℕ) → Found
resource_of_folder folder parts =
    file_or (place_of_file (name_of_segments (parts ++ folder.index ∷ [])) folder.files) Missing

-- what a name stands for: the file, or the path of the folder of that name
abbrev pub resource_of_name : SeenFolder → List ℕ → Found
resource_of_name folder name =
    file_or (place_of_file name folder.files)
    (if has_files_under name folder.files then Redirect (folder_path name) else Missing)

-- what a path without escapes names; one with a dot-segment is none
abbrev pub resource_of_decoded : SeenFolder → List ℕ → Found
resource_of_decoded folder path =
    if has_dot_segment path then BadPath
    else (if names_folder path then resource_of_folder folder (segments path)
    else resource_of_name folder (name_of_segments (segments path)))

-- what a path names in a folder; one with a broken escape or a NUL is none, and one with an escaped slash names nothing
abbrev pub resource_in : SeenFolder → List ℕ → Found
resource_in folder path =
    if not (has_whole_escapes path) || has_nul (percent_decode path) then BadPath
    else (if has_escaped_slash path then Missing else resource_of_decoded folder (percent_decode path))

-- the file at the place behind so many others
abbrev pub placed_behind : ℕ → Found → Found
placed_behind first (IsFile place) = IsFile (first + place)
placed_behind first (Redirect path) = Redirect path
placed_behind first Missing = Missing
placed_behind first BadPath = BadPath

-- what a path names for a host: what it names among the files that the host has
abbrev pub resource_of : SeenSite → ℕ → List ℕ → Found
resource_of site host path = placed_behind (host_at site host).part.first (resource_in (folder_at site host) path)

-- a file that was found is one of the folder
abbrev pub IsFoundIn : SeenFolder → Found → Type 0
IsFoundIn folder (IsFile place) = place < length folder.files
IsFoundIn folder (Redirect path) = ⊤
IsFoundIn folder Missing = ⊤
IsFoundIn folder BadPath = ⊤

-- a file that was found is one that the host has of the site
abbrev pub IsFoundFor : SeenSite → ℕ → Found → Type 0
IsFoundFor site host (IsFile place) =
    ((host_at site host).part.first ≤ place) × (place < (host_at site host).part.first + (host_at site host).part.count)
    × (place < length site.files)
IsFoundFor site host (Redirect path) = ⊤
IsFoundFor site host Missing = ⊤
IsFoundFor site host BadPath = ⊤
