-- Reading a file to its end.
use Rattle.std.specs.Prelude.{◌≡◌, ◌⊎◌, ℕ, ◌+◌, ◌-◌, ◌^◌, ◌<◌, ◌≤◌, min, Bool, true, false, List, take, length, Option, Some, None, IfSome, Result, Ok, Err}
use Rattle.std.specs.Io.KnownBytes.{Consumes, IsAtEnd, Keeps}
use Rattle.mpm_base.specs.declared.store.StoreFault.{StoreFault}
use Rattle.mpm_base.specs.declared.store.StoreFault.TheVariants as fault

-- a read gave so many bytes at the front of the buffer, none only at the end; or it failed and took nothing
abbrev pub ReadsNextPiece : Option (List ℕ) → Option (List ℕ) → Option ℕ → List ℕ → Type 0
ReadsNextPiece old new (Some n) buffer =
    Consumes old new (take n buffer) × (n ≡ 0 → 0 < length buffer → IsAtEnd new)
ReadsNextPiece old new None buffer = Keeps old new

-- the greatest number of bytes that is counted
abbrev pub most_counted : ℕ
most_counted = 2 ^ 64 - 1

-- how many bytes came after a read, where so many came before it
abbrev pub more_bytes : ℕ → Option ℕ → ℕ
more_bytes size (Some n) = min (size + n) most_counted
more_bytes size None = size

-- what reading at most so many bytes to the end answered, by what the reader had left before and after, where it tells, by whether its
-- last read failed, and by how many bytes came: all its bytes, or how many it has where these are more; Failed only where a read failed
-- or more came than is counted; and NoMemory only where none failed
abbrev pub ReadsWhole : Option (List ℕ) → Option (List ℕ) → Bool → ℕ → ℕ → Result (List ℕ) StoreFault → Type 0
ReadsWhole old new failed size most (Ok bytes) =
    (failed ≡ false) × IsAtEnd new × (length bytes ≤ most) × IfSome old (λ all. bytes ≡ all)
ReadsWhole old new failed size most (Err fault.Missing) = ⊥
ReadsWhole old new failed size most (Err (fault.Large told)) =
    (failed ≡ false) × IsAtEnd new × (most < told) × IfSome old (λ all. length all ≡ told)
ReadsWhole old new failed size most (Err fault.Many) = ⊥
ReadsWhole old new failed size most (Err fault.Failed) = (failed ≡ true) ⊎ (size ≡ most_counted)
ReadsWhole old new failed size most (Err fault.NoMemory) = failed ≡ false
