-- A sink in memory: what contracts see of it, and what a write leaves of it.
use Rattle.std.specs.Prelude.{◌≡◌, ℕ, min, Bool, true, false, List, [], ◌++◌, ⊤}
use Rattle.mpm_base.specs.Count.{next_count}
use Rattle.mpm_base.specs.Sink.{put_bytes}
use Rattle.mpm_base.specs.declared.sink.Put.{Put}
use Rattle.mpm_base.specs.declared.sink.Put.TheVariants as put

-- the bytes that writes took, how many writes failed and how many were called, which of them are to fail, and whether a
-- write takes one byte at most
pub record SeenSink : Type 0 where
  pub bytes : List ℕ
  pub faults : ℕ
  pub writes : ℕ
  pub fails : List ℕ
  pub slow : Bool

-- the sink before the first write
abbrev pub new_sink : List ℕ → Bool → SeenSink
new_sink listed one_by_one = record { bytes = []; faults = 0; writes = 0; fails = listed; slow = one_by_one }

-- how many bytes of a piece of this size a write takes
abbrev pub taken_at_once : Bool → ℕ → ℕ
taken_at_once true size = min size 1
taken_at_once false size = size

-- a write fails where it is to fail, and else takes so many bytes, or fails for want of memory
abbrev pub PutsUnless : Bool → Put → ℕ → Type 0
PutsUnless true answer count = answer ≡ put.Failed
PutsUnless false (put.Put n) count = n ≡ count
PutsUnless false put.Failed count = ⊤

-- the count of faults after a write that answered this
abbrev pub count_put : Put → ℕ → ℕ
count_put (put.Put n) faults = faults
count_put put.Failed faults = next_count faults

-- the sink after a write of these bytes that answered this
abbrev pub sink_after_write : Put → List ℕ → SeenSink → SeenSink
sink_after_write answer piece sink =
    record sink {
      bytes = sink.bytes ++ put_bytes answer piece;
      faults = count_put answer sink.faults;
      writes = next_count sink.writes;
    }
