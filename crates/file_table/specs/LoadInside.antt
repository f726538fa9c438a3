-- What the steps of loading a site answer.
use Rattle.std.specs.Prelude.{◌≡◌, ℕ, ◌+◌, ◌<◌, ◌≤◌, true, List, [], ◌∷◌, ◌++◌, length, map, All, Option, None, Some, Result, Ok, Err, IfSome, ⊤}
use Rattle.mpm_base.specs.declared.store.Content.{Content}
use Rattle.mpm_base.specs.declared.store.File.{File}
use Rattle.mpm_base.specs.Count.{NeverFalls}
use Rattle.mpm_base.specs.Store.{StoreSeen, StoreTold, lies_under, names_under}
use Rattle.file_table.specs.declared.load_fault.LoadFault.{LoadFault}
use Rattle.file_table.specs.declared.load_fault.LoadFault.TheVariants as fault
use Rattle.file_table.specs.declared.part.Part.{Part}
use Rattle.file_table.specs.Order.{IsInOrder}
use Rattle.file_table.specs.Site.{AreUnder, AreUnderEach, all_files, file_within, first_too_large, is_too_large, most_bytes_together, most_files, name_within, parts_from, size_of}

-- what listing a root's files answers, where these are their names and so many files were read before
abbrev pub MayListFiles : List ℕ → ℕ → List (List ℕ) → Result (List (List ℕ)) LoadFault → Type 0
MayListFiles root count names (Ok listed) = listed ≡ names
MayListFiles root count names (Err fault.StoreFault) = ⊤
MayListFiles root count names (Err (fault.TooMany named)) = (named ≡ root) × (most_files < count + length names)
MayListFiles root count names (Err (fault.TooLarge name size)) = ⊥
MayListFiles root count names (Err fault.NoMemory) = ⊤

-- what reading this file of that name answers, where those before it have so many bytes
abbrev pub MayReadNext : File → List ℕ → ℕ → Result File LoadFault → Type 0
MayReadNext file name before (Ok read) = read ≡ file
MayReadNext file name before (Err fault.StoreFault) = ⊤
MayReadNext file name before (Err (fault.TooMany root)) = ⊥
MayReadNext file name before (Err (fault.TooLarge named size)) =
    (named ≡ name) × (size ≡ size_of file) × (is_too_large before file ≡ true)
MayReadNext file name before (Err fault.NoMemory) = ⊤

-- what reading the file of that name answers, which has this, where it may have at most so many bytes
abbrev pub MayReadContent : Content → List ℕ → ℕ → Result Content LoadFault → Type 0
MayReadContent content name most (Ok read) = read ≡ content
MayReadContent content name most (Err fault.StoreFault) = ⊤
MayReadContent content name most (Err (fault.TooMany root)) = ⊥
MayReadContent content name most (Err (fault.TooLarge named size)) = (named ≡ name) × (size ≡ length content.bytes) × (most < size)
MayReadContent content name most (Err fault.NoMemory) = ⊤

-- why the files of these names of a folder aren't read, where those before them have so many bytes: the first that is too large
abbrev pub MayNotRead : List ℕ → List File → List (List ℕ) → ℕ → LoadFault → Type 0
MayNotRead root given names before fault.StoreFault = ⊤
MayNotRead root given names before (fault.TooMany named) = ⊥
MayNotRead root given names before (fault.TooLarge name size) =
    (first_too_large before (map (file_within root given) names) ≡ Some (file_within root given name))
    × (size ≡ size_of (file_within root given name)) × (lies_under root name ≡ true)
MayNotRead root given names before fault.NoMemory = ⊤

-- the files have with those before them, of so many bytes, that many, and none is too large: a file behind them is so where it is behind
-- that many bytes
pub record AreCounted (before : ℕ) (files : List File) (sum : ℕ) : Type 0 where
  pub judged : (more : List File) → first_too_large before (files ++ more) ≡ first_too_large sum more
  pub bounded : sum ≤ most_bytes_together

-- the files of these names were read, and none is too large
pub record HasReadFiles (root : List ℕ) (told : Option StoreTold) (names : List (List ℕ)) (before : ℕ) (files : List File) (sum : ℕ) : Type 0 where
  pub named : map (λ (file : File). file.name) files ≡ map (name_within root) names
  pub counted : AreCounted before files sum
  pub known : IfSome told (λ t. files ≡ map (file_within root t.files) names)

-- the files of a root were read behind so many files of so many bytes
pub record IsReadBehind (count before : ℕ) (files : List File) (sum : ℕ) : Type 0 where
  pub in_order : IsInOrder files
  pub few : count + length files ≤ most_files
  pub counted : AreCounted before files sum

-- the file is the first of those under the root that is too large behind so many files of so many bytes
pub record IsTooLargeUnder (root : List ℕ) (given : List File) (count before : ℕ) (name : List ℕ) (size : ℕ) : Type 0 where
  pub files : List File
  pub under : AreUnder root given files
  pub few : count + length files ≤ most_files
  pub file : File
  pub first : first_too_large before files ≡ Some file
  pub named : name ≡ root ++ 47 ∷ file.name
  pub sized : size ≡ size_of file

-- why the files of a root aren't read behind so many files of so many bytes
abbrev pub MayNotReadRoot : List ℕ → List File → ℕ → ℕ → LoadFault → Type 0
MayNotReadRoot root given count before fault.StoreFault = ⊤
MayNotReadRoot root given count before (fault.TooMany named) = (named ≡ root) × (most_files < count + length (names_under root given))
MayNotReadRoot root given count before (fault.TooLarge name size) = IsTooLargeUnder root given count before name size
MayNotReadRoot root given count before fault.NoMemory = ⊤

-- the files of one more root were read, behind those that were read before, of so many bytes; all have so many then
pub record AddsRoot (told : Option StoreTold) (root : List ℕ) (files files' : List File) (parts parts' : List Part) (before sum : ℕ) : Type 0 where
  pub more : List File
  pub files_are : files' ≡ files ++ more
  pub parts_are : parts' ≡ parts ++ record { first = length files; count = length more } ∷ []
  pub read : IsReadBehind (length files) before more sum
  pub known : IfSome told (λ t. AreUnder root t.files more)

-- the files of these roots were read, root by root
pub record HasReadRoots (told : Option StoreTold) (roots : List (List ℕ)) (files : List File) (parts : List Part) : Type 0 where
  pub lists : List (List File)
  pub in_order : All IsInOrder lists
  pub are : files ≡ all_files lists
  pub parts_are : parts ≡ parts_from 0 lists
  pub few : length files ≤ most_files
  pub small : first_too_large 0 files ≡ None
  pub known : IfSome told (λ t. AreUnderEach t.files roots lists)

-- the same on the way, where a file behind them is too large where it is behind so many bytes
pub record IsReadingRoots (told : Option StoreTold) (roots : List (List ℕ)) (files : List File) (parts : List Part) (sum : ℕ) : Type 0 where
  pub lists : List (List File)
  pub in_order : All IsInOrder lists
  pub are : files ≡ all_files lists
  pub parts_are : parts ≡ parts_from 0 lists
  pub few : length files ≤ most_files
  pub counted : AreCounted 0 files sum
  pub known : IfSome told (λ t. AreUnderEach t.files roots lists)

-- the store tells what it told, and no count of it fell
pub record StoreStays (old new : StoreSeen) : Type 0 where
  pub told : new.told ≡ old.told
  pub faults : NeverFalls old.counts.faults new.counts.faults
  pub refusals : NeverFalls old.counts.refusals new.counts.refusals
