-- A store in memory some of whose calls fail: what contracts see of it, what its calls answer, and what they leave of it.
use Rattle.std.specs.Prelude.{ℕ, Bool, true, false, List, Result, Err}
use Rattle.mpm_base.specs.Count.{next_count}
use Rattle.mpm_base.specs.Store.{StoreTold, StoreCounts}
use Rattle.stand_ins.specs.PlainStore.{no_store_counts, only_files, count_answer}
use Rattle.mpm_base.specs.declared.store.File.{File}
use Rattle.mpm_base.specs.declared.store.StoreFault.{StoreFault}
use Rattle.mpm_base.specs.declared.store.StoreFault.TheVariants as fault

-- what the store tells and counts, how often `names` and `read` were called, whatever they answered, and which of these
-- calls are to fail
pub record SeenMemStore : Type 0 where
  pub told : StoreTold
  pub counts : StoreCounts
  pub calls : ℕ
  pub fails : List ℕ

-- a store of these files, which no edition follows, and whose listed calls are to fail
abbrev pub new_mem_store : List File → List ℕ → SeenMemStore
new_mem_store current listed =
    record { told = only_files current; counts = no_store_counts; calls = 0; fails = listed }

-- the answer is Failed where the call is to fail
abbrev pub failed_where : {T : Type 0} → Bool → Result T StoreFault → Result T StoreFault
failed_where true answer = Err fault.Failed
failed_where false answer = answer

-- the store after a call that answered this
abbrev pub mem_store_after : {T : Type 0} → Result T StoreFault → SeenMemStore → SeenMemStore
mem_store_after answer store =
    record store { counts = count_answer answer store.counts; calls = next_count store.calls }
