-- A sink takes the bytes of an output. A log is a sink that is opened, also anew, under a name.
-- Why it is so stands in docs/DECISIONS.md: 118, What a log tells of its openings.
use Rattle.std.specs.Prelude.{◌≡◌, ℕ, ◌<◌, ◌≤◌, Bool, true, false, not, List, [], ◌∷◌, ◌++◌, take, length, Option, None, Some, option_map, IfSome, ⊤}
use Rattle.mpm_base.specs.Count.{RisesWhere}
use Rattle.mpm_base.specs.declared.sink.Put.{Put}
use Rattle.mpm_base.specs.declared.sink.Put.TheVariants as put

-- a log was opened under this name, behind so many bytes that were written before
pub record Opened : Type 0 where
  pub name : List ℕ
  pub behind : ℕ

-- what is seen of a sink: the bytes written, where it tells them, and its count of faults; and of a log that tells, in order,
-- how it was opened
pub record SinkSeen : Type 0 where
  pub told : Option (List ℕ)
  pub faults : ℕ
  pub opened : List Opened

-- the same of a sink that tells, and isn't opened
abbrev pub telling_sink : List ℕ → ℕ → SinkSeen
telling_sink written faults = record { told = Some written; faults = faults; opened = [] }

-- the same of a sink that tells nothing
abbrev pub silent_sink : ℕ → SinkSeen
silent_sink faults = record { told = None; faults = faults; opened = [] }

-- the same of a log that tells
abbrev pub telling_log : List ℕ → ℕ → List Opened → SinkSeen
telling_log written faults opened = record { told = Some written; faults = faults; opened = opened }

-- the bytes of the piece that the write took
abbrev pub put_bytes : Put → List ℕ → List ℕ
put_bytes (put.Put n) bytes = take n bytes
put_bytes put.Failed bytes = []

-- at least one byte of a piece that isn't empty was taken, and never more than it has
abbrev pub FitsOutput : Put → ℕ → Type 0
FitsOutput (put.Put n) room = (n ≤ room) × (0 < room → 0 < n)
FitsOutput put.Failed room = ⊤

-- the write failed
abbrev pub put_failed : Put → Bool
put_failed (put.Put n) = false
put_failed put.Failed = true

-- what a write of these bytes answered, and left of the sink
pub record Puts (old new : SinkSeen) (answer : Put) (bytes : List ℕ) : Type 0 where
  pub told_is : new.told ≡ option_map (λ written. written ++ put_bytes answer bytes) old.told
  pub fits : FitsOutput answer (length bytes)
  pub count : RisesWhere (put_failed answer) old.faults new.faults
  pub opened_stays : new.opened ≡ old.opened

-- how a log was opened, behind a call that opened it under this name or not
abbrev pub opened_behind : Bool → List ℕ → List ℕ → List Opened → List Opened
opened_behind true name written opened = opened ++ record { name = name; behind = length written } ∷ []
opened_behind false name written opened = opened

-- what a call that opens a log under this name answered, whether it did, and left of it; where it didn't, its count of faults rose
pub record Begins (old new : SinkSeen) (name : List ℕ) (answer : Bool) : Type 0 where
  pub told_stays : new.told ≡ old.told
  pub count : RisesWhere (not answer) old.faults new.faults
  pub opened_is : IfSome old.told (λ written. new.opened ≡ opened_behind answer name written old.opened)
