-- A site: the files under the roots of its hosts, root by root, and what each host has of them. A root of several hosts stands in it once.
-- Why it is so stands in docs/DECISIONS.md: 117, One list of files for all hosts.
use Rattle.std.specs.Prelude.{◌≡◌, ℕ, ◌+◌, ◌<◌, ◌^◌, ◌||◌, nat_lt, All, IsUtf8, Bool, false, List, [], ◌∷◌, ◌++◌, length, map, take, drop, position, slice_get, Option, Some, None, if◌then◌else◌, unwrap_or, ⊤}
use Rattle.std.specs.List.{list_any}
use Rattle.std.specs.List.Sorted.{IsPermutation}
use Rattle.std.specs.Option.{option_and_then}
use Rattle.std.specs.Str.{bytes_eq}
use Rattle.mpm_base.specs.declared.store.Content.{Content}
use Rattle.mpm_base.specs.declared.store.File.{File}
use Rattle.mpm_base.specs.Store.{content_of, names_under}
use Rattle.media_types.specs.declared.types.MediaTypes.{MediaTypes}
use Rattle.media_types.specs.MediaType.{default_types}
use Rattle.file_table.specs.declared.marks.Marks.{Marks}
use Rattle.file_table.specs.declared.part.Part.{Part}
use Rattle.file_table.specs.declared.site_order.HostOrder.{HostOrder}
use Rattle.file_table.specs.declared.site_order.SiteOrder.{SiteOrder}
use Rattle.file_table.specs.Order.{IsInOrder}

-- what a host has of a site: the name of the file that stands for a folder, and which of the site's files lie under its root
pub record SeenHost : Type 0 where
  pub index : List ℕ
  pub part : Part

-- what contracts see of a site: the names of each host, what each host has of it, whether the status page is served, by which marks
-- clients may ask whether what they have is still right, by what files get their types, and the files, those of one root behind those of
-- another
pub record SeenSite : Type 0 where
  pub names : List (List (List ℕ))
  pub hosts : List SeenHost
  pub status : Bool
  pub marks : Marks
  pub types : MediaTypes
  pub files : List File

-- ## What a site is made of

-- there is a host, no more than can be numbered, and each root is UTF-8
pub record IsLoadable (order : SiteOrder) : Type 0 where
  pub some : 0 < length order.hosts
  pub most : length order.hosts < 2 ^ 32
  pub roots : All (λ (host : HostOrder). IsUtf8 host.root) order.hosts

-- no file has a mark
abbrev pub no_marks : Marks
no_marks = record { tags = false; times = false }

-- one host without a name, which has these, without marks and by the usual types
abbrev pub one_host : List ℕ → List ℕ → Bool → SiteOrder
one_host root index status =
    record {
      hosts = record { names = []; root = root; index = index } ∷ [];
      status = status;
      marks = no_marks;
      types = default_types;
    }

-- ## The files under a root

-- the name within a folder of what lies there: what follows the folder's name and a slash
abbrev pub name_within : List ℕ → List ℕ → List ℕ
name_within folder name = drop (length folder + 1) name

-- what a file has that isn't there
abbrev pub no_content : Content
no_content = record { bytes = []; second = 0 }

-- a name in the folder as a file of it, which has this
abbrev pub file_of_content : List ℕ → List ℕ → Content → File
file_of_content folder name content =
    record { name = name_within folder name; bytes = content.bytes; second = content.second }

-- a name of these files as a file of the folder: it has what the first file of that name has, and no bytes where no file has it
abbrev pub file_within : List ℕ → List File → List ℕ → File
file_within folder files name = file_of_content folder name (unwrap_or (content_of name files) no_content)

-- the files are those under the root, in the order of their names there
pub record AreUnder (root : List ℕ) (given files : List File) : Type 0 where
  pub names : List (List ℕ)
  pub all : IsPermutation (names_under root given) names
  pub are : files ≡ map (file_within root given) names
  pub in_order : IsInOrder files

-- these lists have the files under each of the roots
abbrev pub AreUnderEach : List File → List (List ℕ) → List (List File) → Type 0
AreUnderEach given [] [] = ⊤
AreUnderEach given [] (files ∷ lists) = ⊥
AreUnderEach given (root ∷ roots) [] = ⊥
AreUnderEach given (root ∷ roots) (files ∷ lists) = AreUnder root given files × AreUnderEach given roots lists

-- ## The roots of the hosts

-- the roots and one more, where it isn't among them
abbrev pub with_root : List (List ℕ) → List ℕ → List (List ℕ)
with_root roots root = if list_any (bytes_eq root) roots then roots else roots ++ root ∷ []

-- the roots and those of the hosts that aren't among them
abbrev pub with_roots : List (List ℕ) → List HostOrder → List (List ℕ)
with_roots roots [] = roots
with_roots roots (host ∷ hosts) = with_roots (with_root roots host.root) hosts

-- the roots of the hosts, each once, in the order of the first host that has it
abbrev pub roots_of : List HostOrder → List (List ℕ)
roots_of hosts = with_roots [] hosts

-- ## The site

-- the files of these lists, one list behind the other
abbrev pub all_files : List (List File) → List File
all_files [] = []
all_files (files ∷ lists) = files ++ all_files lists

-- which of all files each of these lists has, where the first begins at that place
abbrev pub parts_from : ℕ → List (List File) → List Part
parts_from first [] = []
parts_from first (files ∷ lists) = record { first = first; count = length files } ∷ parts_from (first + length files) lists

-- the part of the root; no files where it isn't among the roots
abbrev pub part_of_root : List (List ℕ) → List Part → List ℕ → Part
part_of_root roots parts root =
    unwrap_or (option_and_then (λ place. slice_get parts place) (position (bytes_eq root) roots)) (record { first = 0; count = 0 })

-- what the host has of a site with these roots, whose parts these are
abbrev pub host_of : List (List ℕ) → List Part → HostOrder → SeenHost
host_of roots parts host = record { index = host.index; part = part_of_root roots parts host.root }

-- the site has the files under the roots of the hosts, each root once; each host has those of its own root, in the order of their names
-- there; and it serves the status page, and has marks and types, as is ordered
pub record IsSiteOf (order : SiteOrder) (given : List File) (site : SeenSite) : Type 0 where
  pub names : site.names ≡ map (λ (host : HostOrder). host.names) order.hosts
  pub lists : List (List File)
  pub under : AreUnderEach given (roots_of order.hosts) lists
  pub files : site.files ≡ all_files lists
  pub hosts : site.hosts ≡ map (host_of (roots_of order.hosts) (parts_from 0 lists)) order.hosts
  pub status : site.status ≡ order.status
  pub marks : site.marks ≡ order.marks
  pub types : site.types ≡ order.types

-- ## What a host has

-- what a path is looked up in: the name of the file that stands for a folder, and files in the order of their names
pub record SeenFolder : Type 0 where
  pub index : List ℕ
  pub files : List File

-- the files of a part
abbrev pub files_of_part : List File → Part → List File
files_of_part files part = take part.count (drop part.first files)

-- what the host at the place has; nothing where there is none
abbrev pub host_at : SeenSite → ℕ → SeenHost
host_at site host = unwrap_or (slice_get site.hosts host) (record { index = []; part = record { first = 0; count = 0 } })

-- what the paths of a host are looked up in
abbrev pub folder_at : SeenSite → ℕ → SeenFolder
folder_at site host = record { index = (host_at site host).index; files = files_of_part site.files (host_at site host).part }

-- ## Limits

-- a site has at most 65,536 files
abbrev pub most_files : ℕ
most_files = 65536

-- a file of a site has at most 16,777,216 bytes
abbrev pub most_bytes : ℕ
most_bytes = 16777216

-- the files of a site have at most 67,108,864 bytes together
abbrev pub most_bytes_together : ℕ
most_bytes_together = 67108864

-- how many bytes the file has
abbrev pub size_of : File → ℕ
size_of file = length file.bytes

-- the file has more bytes than one may have, or with those before it, which have so many, more than the files may have together
abbrev pub is_too_large : ℕ → File → Bool
is_too_large before file = nat_lt most_bytes (size_of file) || nat_lt most_bytes_together (before + size_of file)

-- the first file that is too large, where those before the first have so many bytes
abbrev pub first_too_large : ℕ → List File → Option File
first_too_large before [] = None
first_too_large before (file ∷ files) =
    if is_too_large before file then Some file else first_too_large (before + size_of file) files
