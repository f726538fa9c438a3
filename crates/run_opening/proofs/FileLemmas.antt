-- What a store that was read says of a file.
use Rattle.run_opening.specs.Calls.{IsFileUnread, Call, HasFile, IsRefusedAsLarge}
use Rattle.std.proofs.Common.{◌≡◌, inl, inr, ℕ, ◌<◌, List, length, Option, None, Some, IfSome, option_map, Result, Ok, Err, subst, ◌∙◌, arith}
use Rattle.mpm_base.specs.Store.{ReadsBytes, StoreSeen, StoreTold, bytes_of}
use Rattle.mpm_base.specs.declared.store.StoreFault.{StoreFault}
use Rattle.mpm_base.specs.declared.store.StoreFault.TheVariants as store
use Rattle.run_opening.specs.RefusalsInside.{RefusesRun}
use Rattle.run_report.specs.Texts.{store_fault}

-- a file that is known to be too large is one of the store
is_large : (most : ℕ) (told : Option StoreTold) (name : List ℕ) (size : ℕ)
    → (most < size) × IfSome (option_map (λ t. bytes_of name t.files) told) (λ file. (bytes : List ℕ) × (file ≡ Some bytes) × (length bytes ≡ size))
    → IfSome told (λ t. (bytes : List ℕ) × (bytes_of name t.files ≡ Some bytes) × (most < length bytes))
is_large most None name size may = tt
is_large most (Some t) name size may = (may.1.0, may.1.1, omega (arith, may.0, may.1.2))

-- bytes that are known are those of a file of the store
pub is_file : (told : Option StoreTold) (name bytes : List ℕ) → IfSome (option_map (λ t. bytes_of name t.files) told) (λ file. file ≡ Some bytes)
    → IfSome told (λ t. bytes_of name t.files ≡ Some bytes)
is_file None name bytes is = tt
is_file (Some t) name bytes is = is

-- a file that is known to be missing is none of the store
is_missing : (told : Option StoreTold) (name : List ℕ) → IfSome (option_map (λ t. bytes_of name t.files) told) (λ file. file ≡ None)
    → IfSome told (λ t. bytes_of name t.files ≡ None)
is_missing None name none = tt
is_missing (Some t) name none = none

-- bytes that were read are the file's, where the store tells on what it told after the read
pub has_file : (most : ℕ) (call : Call) (read : StoreSeen) (name bytes : List ℕ) (answer : Result (List ℕ) StoreFault)
    → ReadsBytes call.store read name most answer → call.store'.told ≡ read.told → answer ≡ Ok bytes → HasFile most call name bytes
has_file most call read name bytes answer reads stays is =
    let how = subst (ReadsBytes call.store read name most) is reads in
    record { kept = stays ∙ how.told_stays; few = how.may.0; file = is_file call.store.told name bytes how.may.1 }

-- a file that was not read for its size is too large
pub too_large : (most : ℕ) (call : Call) (name : List ℕ) (size : ℕ) (answer : Result (List ℕ) StoreFault) → ReadsBytes call.store call.store' name most answer
    → answer ≡ Err (store.Large size) → IsRefusedAsLarge most call name
too_large most call name size answer reads is =
    let how = subst (ReadsBytes call.store call.store' name most) is reads in
    record { refused = how.counted.refusals; large = is_large most call.store.told name size how.may }

-- the file is missing
pub unread-missing : (call : Call) (most : ℕ) (name : List ℕ) (answer : Result (List ℕ) StoreFault)
    → ReadsBytes call.store call.store' name most answer → answer ≡ Err store.Missing
    → RefusesRun call.sink call.sink' (Some 0) (store_fault name) call.shown → IsFileUnread call name
unread-missing call most name answer reads is refused =
    let how = subst (ReadsBytes call.store call.store' name most) is reads in
    record {
      kept = how.told_stays;
      cause = inl (refused.shows, record { refused = how.counted.refusals; none = is_missing call.store.told name how.may });
      text = refused.writes;
    }

-- a call of the store failed
pub unread-failed : (call : Call) (most : ℕ) (name : List ℕ) (answer : Result (List ℕ) StoreFault)
    → ReadsBytes call.store call.store' name most answer → answer ≡ Err store.Failed
    → RefusesRun call.sink call.sink' None (store_fault name) call.shown → IsFileUnread call name
unread-failed call most name answer reads is refused =
    let how = subst (ReadsBytes call.store call.store' name most) is reads in
    record {
      kept = how.told_stays;
      cause = inr (refused.shows, how.counted.faults);
      text = refused.writes;
    }
