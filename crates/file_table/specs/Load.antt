-- What loading a site answers, and what it leaves of the store.
use Rattle.std.specs.Prelude.{◌≡◌, ℕ, ◌+◌, ◌<◌, ◌≤◌, Bool, true, false, List, ◌∷◌, ◌++◌, length, Some, None, Result, Ok, Err, ⊤}
use Rattle.mpm_base.specs.declared.store.File.{File}
use Rattle.mpm_base.specs.Count.{RisesWhere}
use Rattle.mpm_base.specs.Store.{StoreSeen, names_under}
use Rattle.file_table.specs.declared.load_fault.LoadFault.{LoadFault}
use Rattle.file_table.specs.declared.load_fault.LoadFault.TheVariants as fault
use Rattle.file_table.specs.declared.site_order.SiteOrder.{SiteOrder}
use Rattle.file_table.specs.Site.{AreUnder, AreUnderEach, SeenSite, IsSiteOf, all_files, first_too_large, most_files, roots_of, size_of}

-- loading comes to the root: the files under the roots that stand before it are no more than a site may have, and none is too large
pub record ComesTo (roots : List (List ℕ)) (given : List File) (root : List ℕ) (before : List File) : Type 0 where
  pub done : List (List ℕ)
  pub behind : List (List ℕ)
  pub all : roots ≡ done ++ root ∷ behind
  pub lists : List (List File)
  pub under : AreUnderEach given done lists
  pub are : before ≡ all_files lists
  pub few : length before ≤ most_files
  pub small : first_too_large 0 before ≡ None

-- with those under the root the files are more than a site may have
pub record AreTooMany (roots : List (List ℕ)) (given : List File) (root : List ℕ) : Type 0 where
  pub before : List File
  pub comes : ComesTo roots given root before
  pub many : most_files < length before + length (names_under root given)

-- the file is the first that is too large, and with those under its root the files aren't too many; the name is its whole name, and it
-- has so many bytes
pub record IsTooLargeFile (roots : List (List ℕ)) (given : List File) (name : List ℕ) (size : ℕ) : Type 0 where
  pub root : List ℕ
  pub before : List File
  pub comes : ComesTo roots given root before
  pub files : List File
  pub under : AreUnder root given files
  pub few : length before + length files ≤ most_files
  pub file : File
  pub first : first_too_large 0 (before ++ files) ≡ Some file
  pub named : name ≡ root ++ 47 ∷ file.name
  pub sized : size ≡ size_of file

-- why there is no site of the files under these roots
abbrev pub MayNotLoad : List (List ℕ) → List File → LoadFault → Type 0
MayNotLoad roots given fault.StoreFault = ⊤
MayNotLoad roots given (fault.TooMany root) = AreTooMany roots given root
MayNotLoad roots given (fault.TooLarge name size) = IsTooLargeFile roots given name size
MayNotLoad roots given fault.NoMemory = ⊤

-- what loading answers of these files: their site, or why it is refused
abbrev pub MayLoad : SiteOrder → List File → Result SeenSite LoadFault → Type 0
MayLoad order given (Ok site) = IsSiteOf order given site
MayLoad order given (Err e) = MayNotLoad (roots_of order.hosts) given e

-- a site that was loaded has no more files than one may have, and none is too large
pub record IsWithinLimits (site : SeenSite) : Type 0 where
  pub few : length site.files ≤ most_files
  pub small : first_too_large 0 site.files ≡ None

-- the store failed
abbrev pub is_store_fault : LoadFault → Bool
is_store_fault fault.StoreFault = true
is_store_fault (fault.TooMany root) = false
is_store_fault (fault.TooLarge name size) = false
is_store_fault fault.NoMemory = false

-- the files are more, or larger, than a site takes
abbrev pub is_limit : LoadFault → Bool
is_limit fault.StoreFault = false
is_limit (fault.TooMany root) = true
is_limit (fault.TooLarge name size) = true
is_limit fault.NoMemory = false

-- the answer is a fault that passes the test
abbrev pub answers_for : {T : Type 0} → (LoadFault → Bool) → Result T LoadFault → Bool
answers_for test (Ok x) = false
answers_for test (Err e) = test e

-- what loading left of the store: it tells what it told, and no count of it fell; the first rose where the answer is
-- StoreFault, the second where it is TooMany or TooLarge
pub record LeavesStore {T : Type 0} (old new : StoreSeen) (answer : Result T LoadFault) : Type 0 where
  pub told : new.told ≡ old.told
  pub faults : RisesWhere (answers_for is_store_fault answer) old.counts.faults new.counts.faults
  pub refusals : RisesWhere (answers_for is_limit answer) old.counts.refusals new.counts.refusals
