-- A store is a folder of files by name. Where it tells them, they change at a call of `renew` alone.
-- Why it is so stands in docs/DECISIONS.md: 1, The names of a store.
use Rattle.std.specs.Prelude.{◌≡◌, ℕ, ◌<◌, ◌≤◌, Bool, true, false, List, [], ◌∷◌, ◌++◌, map, filter, length, All, IsUtf8, nat_eq, if◌then◌else◌, IfSome, Option, None, Some, option_map, Result, Ok, Err, ⊤, IfOk}
use Rattle.std.specs.List.{starts_with}
use Rattle.std.specs.Str.{bytes_eq}
use Rattle.mpm_base.specs.Count.{NeverFalls, RisesWhere}
use Rattle.mpm_base.specs.declared.store.Content.{Content}
use Rattle.mpm_base.specs.declared.store.File.{File}
use Rattle.mpm_base.specs.declared.store.StoreFault.{StoreFault}
use Rattle.mpm_base.specs.declared.store.StoreFault.TheVariants as fault

-- what a store that tells holds: its files, and those of the later editions, in their order
pub record StoreTold : Type 0 where
  pub files : List File
  pub later : List (List File)

-- counts that each store keeps, whether it tells or not: of failed calls, and of refusals for what the files are
pub record StoreCounts : Type 0 where
  pub faults : ℕ
  pub refusals : ℕ

-- what is seen of a store: its files, where it tells them, and its counts
pub record StoreSeen : Type 0 where
  pub told : Option StoreTold
  pub counts : StoreCounts

-- the same of a store that tells
abbrev pub telling_store : StoreTold → StoreCounts → StoreSeen
telling_store told counts = record { told = Some told; counts = counts }

-- the files of the next edition, or these where there is none
abbrev pub next_files : List File → List (List File) → List File
next_files files [] = files
next_files files (edition ∷ editions) = edition

-- the editions behind the next one
abbrev pub later_editions : List (List File) → List (List File)
later_editions [] = []
later_editions (edition ∷ editions) = editions

-- what the store tells once it went to its next edition; at the last one it stays
abbrev pub after_renew : StoreTold → StoreTold
after_renew t = record { files = next_files t.files t.later; later = later_editions t.later }

-- what the first file of that name has
abbrev pub content_of : List ℕ → List File → Option Content
content_of name [] = None
content_of name (f ∷ files) =
    if bytes_eq f.name name then Some (record { bytes = f.bytes; second = f.second }) else content_of name files

-- the bytes of the first file of that name
abbrev pub bytes_of : List ℕ → List File → Option (List ℕ)
bytes_of name files = option_map (λ (c : Content). c.bytes) (content_of name files)

-- the name is that of something below the folder
abbrev pub lies_under : List ℕ → List ℕ → Bool
lies_under folder name = starts_with nat_eq name (folder ++ 47 ∷ [])

-- the names below the folder, in the order of the files
abbrev pub names_under : List ℕ → List File → List (List ℕ)
names_under folder files = filter (lies_under folder) (map (λ f. f.name) files)

-- the answer says what the files are, and no file does: Missing, Large or Many
abbrev pub is_refusal : StoreFault → Bool
is_refusal fault.Missing = true
is_refusal (fault.Large size) = true
is_refusal fault.Many = true
is_refusal fault.Failed = false
is_refusal fault.NoMemory = false

-- a call of the store failed
abbrev pub is_failure : StoreFault → Bool
is_failure fault.Missing = false
is_failure (fault.Large size) = false
is_failure fault.Many = false
is_failure fault.Failed = true
is_failure fault.NoMemory = false

-- the answer is a fault that passes the test
abbrev pub answers_with : {T : Type 0} → (StoreFault → Bool) → Result T StoreFault → Bool
answers_with test (Ok x) = false
answers_with test (Err e) = test e

-- no count fell; the first rose where the call failed, the second where the answer is a refusal
pub record CountsAsk {T : Type 0} (counts counts' : StoreCounts) (answer : Result T StoreFault) : Type 0 where
  pub faults : RisesWhere (answers_with is_failure answer) counts.faults counts'.faults
  pub refusals : RisesWhere (answers_with is_refusal answer) counts.refusals counts'.refusals

-- what a read of at most so many bytes may answer, where what is read, which has bytes, is known and whether it is there
abbrev pub MayReadAs : {T : Type 0} → (T → List ℕ) → Option (Option T) → ℕ → Result T StoreFault → Type 0
MayReadAs bytes_of known most (Ok it) = (length (bytes_of it) ≤ most) × IfSome known (λ file. file ≡ Some it)
MayReadAs bytes_of known most (Err fault.Missing) = IfSome known (λ file. file ≡ None)
MayReadAs {T} bytes_of known most (Err (fault.Large size)) =
    (most < size) × IfSome known (λ file. (it : T) × (file ≡ Some it) × (length (bytes_of it) ≡ size))
MayReadAs bytes_of known most (Err fault.Many) = ⊥
MayReadAs bytes_of known most (Err fault.Failed) = ⊤
MayReadAs bytes_of known most (Err fault.NoMemory) = ⊤

-- what a read may answer, where the file is known and whether it is
abbrev pub MayRead : Option (Option Content) → ℕ → Result Content StoreFault → Type 0
MayRead = MayReadAs (λ content. content.bytes)

-- what a read of at most so many bytes of the file of that name answered, and left of the store
pub record ReadsFile (old new : StoreSeen) (name : List ℕ) (most : ℕ) (answer : Result Content StoreFault) : Type 0 where
  pub told_stays : new.told ≡ old.told
  pub counted : CountsAsk old.counts new.counts answer
  pub may : MayRead (option_map (λ t. content_of name t.files) old.told) most answer

-- what a read of the bytes alone may answer, where the file is known and whether it is
abbrev pub MayReadBytes : Option (Option (List ℕ)) → ℕ → Result (List ℕ) StoreFault → Type 0
MayReadBytes = MayReadAs (λ bytes. bytes)

-- what a read of at most so many bytes of the file of that name answered, of the bytes alone, and left of the store
pub record ReadsBytes (old new : StoreSeen) (name : List ℕ) (most : ℕ) (answer : Result (List ℕ) StoreFault) : Type 0 where
  pub told_stays : new.told ≡ old.told
  pub counted : CountsAsk old.counts new.counts answer
  pub may : MayReadBytes (option_map (λ t. bytes_of name t.files) old.told) most answer

-- what a listing may answer, where the names are known and whether they are
abbrev pub MayList : Option (List (List ℕ)) → ℕ → Result (List (List ℕ)) StoreFault → Type 0
MayList known most (Ok names) = (length names ≤ most) × All IsUtf8 names × IfSome known (λ all. names ≡ all)
MayList known most (Err fault.Missing) = ⊥
MayList known most (Err (fault.Large size)) = ⊥
MayList known most (Err fault.Many) = IfSome known (λ all. most < length all)
MayList known most (Err fault.Failed) = ⊤
MayList known most (Err fault.NoMemory) = ⊤

-- what a listing of at most so many names below a folder answered, each of which lies there, and left of the store
pub record ListsNames (old new : StoreSeen) (folder : List ℕ) (most : ℕ) (answer : Result (List (List ℕ)) StoreFault) : Type 0 where
  pub told_stays : new.told ≡ old.told
  pub counted : CountsAsk old.counts new.counts answer
  pub may : MayList (option_map (λ t. names_under folder t.files) old.told) most answer
  pub below : IfOk answer (All (λ name. lies_under folder name ≡ true))

-- what a call of `renew` left of the store
pub record Renews (old new : StoreSeen) : Type 0 where
  pub told_is : new.told ≡ option_map after_renew old.told
  pub faults : NeverFalls old.counts.faults new.counts.faults
  pub refusals : NeverFalls old.counts.refusals new.counts.refusals

-- the answer tells what the files are: it is neither that the call failed nor that memory lacked
abbrev pub IsOutcome : {T : Type 0} → Result T StoreFault → Type 0
IsOutcome (Ok x) = ⊤
IsOutcome (Err fault.Missing) = ⊤
IsOutcome (Err (fault.Large size)) = ⊤
IsOutcome (Err fault.Many) = ⊤
IsOutcome (Err fault.Failed) = ⊥
IsOutcome (Err fault.NoMemory) = ⊥
