-- A listing of a folder, as far as it came.
use Rattle.std.specs.Prelude.{◌≡◌, ℕ, ◌≤◌, true, List, [], ◌∷◌, ◌++◌, All, IsUtf8, length, ⊤}
use Rattle.mpm_base.specs.Store.{lies_under}
use Rattle.mpm_base.specs.declared.store.StoreFault.{StoreFault}
use Rattle.mpm_base.specs.declared.store.StoreFault.TheVariants as fault
use Rattle.system_outside.specs.declared.entry.EntryKind.{EntryKind}
use Rattle.system_outside.specs.declared.entry.EntryKind.TheVariants as entry

-- the names of the files that were found, and the folders that are still to be gone through
pub record SeenListing : Type 0 where
  pub names : List (List ℕ)
  pub folders : List (List ℕ)

-- nothing was found yet
abbrev pub first_listing : List ℕ → SeenListing
first_listing under = record { names = []; folders = under ∷ [] }

-- the listing with one more entry of that name: a folder is still to be gone through, a file's name is kept, anything else is left out
abbrev pub with_entry : SeenListing → List ℕ → EntryKind → SeenListing
with_entry l name entry.Folder = record l { folders = l.folders ++ name ∷ [] }
with_entry l name entry.File = record l { names = l.names ++ name ∷ [] }
with_entry l name entry.Other = l

-- what stands in the folder lies below the first one: the folder is that one, or lies below it
abbrev pub IsFolderOf : List ℕ → List ℕ → Type 0
IsFolderOf under folder = lies_under under (folder ++ 47 ∷ []) ≡ true

-- the names are text, at most so many, and all below the folder, as is what the other folders hold
pub record IsListing (under : List ℕ) (most : ℕ) (l : SeenListing) : Type 0 where
  pub few : length l.names ≤ most
  pub text : All IsUtf8 l.names
  pub below : All (λ name. lies_under under name ≡ true) l.names
  pub folders : All (IsFolderOf under) l.folders

-- what was a listing of a folder in which this one is, or lies below it, is one still
abbrev pub KeepsListings : List ℕ → ℕ → SeenListing → SeenListing → Type 0
KeepsListings folder most old new =
    (under : List ℕ) → IsFolderOf under folder → IsListing under most old → IsListing under most new

-- a listing may be refused so
abbrev pub IsListFault : StoreFault → Type 0
IsListFault fault.Missing = ⊥
IsListFault (fault.Large size) = ⊥
IsListFault fault.Many = ⊤
IsListFault fault.Failed = ⊤
IsListFault fault.NoMemory = ⊤

-- one more entry is refused so: a file where there are so many already, or for want of memory
abbrev pub MayRefuse : SeenListing → EntryKind → ℕ → StoreFault → Type 0
MayRefuse l k most fault.Missing = ⊥
MayRefuse l k most (fault.Large size) = ⊥
MayRefuse l k most fault.Many = (k ≡ entry.File) × (most ≤ length l.names)
MayRefuse l k most fault.Failed = ⊥
MayRefuse l k most fault.NoMemory = ⊤
