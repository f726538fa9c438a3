-- What a site keeps.
use Rattle.std.specs.Prelude.{◌≡◌, ℕ, ◌+◌, ◌<◌, ◌≤◌, ◌^◌, true, List, length, map, All}
use Rattle.media_types.specs.Places.{place_of_name}
use Rattle.media_types.specs.declared.types.MediaTypes.{MediaTypes}
use Rattle.mpm_base.specs.declared.store.File.{File}
use Rattle.file_table.specs.declared.marks.Marks.{Marks}
use Rattle.file_table.specs.declared.part.Part.{Part}
use Rattle.file_table.specs.Order.{IsInOrder}
use Rattle.file_table.specs.Site.{SeenHost, files_of_part, most_files}
use Rattle.file_table.specs.Tag.{tag_of}

-- the part is one of these files, which are there in the order of their names
pub record IsPartOf (files : List File) (part : Part) : Type 0 where
  pub within : part.first + part.count ≤ length files
  pub in_order : IsInOrder (files_of_part files part)

-- there is a host, and no more than can be numbered; each has names and its part of the files, which aren't too many
pub record AreHosts (names : List (List (List ℕ))) (hosts : List SeenHost) (files : List File) : Type 0 where
  pub some : 0 < length hosts
  pub most : length hosts < 2 ^ 32
  pub named : length names ≡ length hosts
  pub parts : All (λ (host : SeenHost). IsPartOf files host.part) hosts
  pub few : length files ≤ most_files

-- the tags of the files, in order
abbrev pub tags_of : List File → List (List ℕ)
tags_of files = map (λ (file : File). tag_of file.bytes) files

-- where files have tags, these are theirs
abbrev pub AreTagsOf : Marks → List File → List (List ℕ) → Type 0
AreTagsOf marks files tags = marks.tags ≡ true → tags ≡ tags_of files

-- the places of the types of the files, in order
abbrev pub places_of : MediaTypes → List File → List ℕ
places_of types files = map (λ (file : File). place_of_name types file.name) files

-- what is found once of each file: its tag, where files have tags, and the place of its type
pub record AreFoundOnce (marks : Marks) (types : MediaTypes) (files : List File) (tags : List (List ℕ)) (places : List ℕ) : Type 0 where
  pub tagged : AreTagsOf marks files tags
  pub typed : places ≡ places_of types files
