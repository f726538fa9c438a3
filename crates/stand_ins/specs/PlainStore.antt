-- A store in memory: what contracts see of it, what its calls answer, and what they leave of it.
use Rattle.std.specs.Prelude.{◌≡◌, ℕ, nat_lt, List, [], ◌∷◌, ◌++◌, length, Option, None, Some, Result, Ok, Err, IsOk, if◌then◌else◌}
use Rattle.mpm_base.specs.Count.{next_count}
use Rattle.mpm_base.specs.Store.{StoreTold, StoreCounts, is_refusal, is_failure, answers_with}
use Rattle.mpm_base.specs.declared.store.Content.{Content}
use Rattle.mpm_base.specs.declared.store.File.{File}
use Rattle.mpm_base.specs.declared.store.StoreFault.{StoreFault}
use Rattle.mpm_base.specs.declared.store.StoreFault.TheVariants as fault

-- what the store tells and counts
pub record SeenStore : Type 0 where
  pub told : StoreTold
  pub counts : StoreCounts

-- the counts of a store of which no call was made
abbrev pub no_store_counts : StoreCounts
no_store_counts = record { faults = 0; refusals = 0 }

-- what a store of these files tells, where no edition comes after them
abbrev pub only_files : List File → StoreTold
only_files current = record { files = current; later = [] }

-- what the store tells once an edition was put behind all others
abbrev pub with_edition : List File → StoreTold → StoreTold
with_edition edition told = record told { later = told.later ++ edition ∷ [] }

-- what a read of at most so many bytes answers, with memory enough, of a file that has this or isn't there
abbrev pub file_answer : Option Content → ℕ → Result Content StoreFault
file_answer None most = Err fault.Missing
file_answer (Some content) most =
    if nat_lt most (length content.bytes) then Err (fault.Large (length content.bytes)) else Ok content

-- what a listing of at most so many names answers, with memory enough, where these names are there
abbrev pub names_answer : List (List ℕ) → ℕ → Result (List (List ℕ)) StoreFault
names_answer names most = if nat_lt most (length names) then Err fault.Many else Ok names

-- the call answers this; in place of a value it may answer that memory lacks
abbrev pub AnswersUnlessNoMemory : {T : Type 0} → Result T StoreFault → Result T StoreFault → Type 0
AnswersUnlessNoMemory (Err fault.NoMemory) meant = IsOk meant
AnswersUnlessNoMemory answer meant = answer ≡ meant

-- the counts after a call that answered this
abbrev pub count_answer : {T : Type 0} → Result T StoreFault → StoreCounts → StoreCounts
count_answer answer counts =
    record {
      faults = if answers_with is_failure answer then next_count counts.faults else counts.faults;
      refusals = if answers_with is_refusal answer then next_count counts.refusals else counts.refusals;
    }
