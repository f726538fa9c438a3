-- What was written of a text.
use Rattle.mpm_base.specs.Count.{NeverFalls, Rises}
use Rattle.mpm_base.specs.Sink.{SinkSeen}
use Rattle.std.specs.Prelude.{◌≡◌, ℕ, ◌+◌, ◌<◌, ◌⊎◌, List, ◌++◌, length, Option, option_map, IfSome, IsSomeAnd}

-- the text was written whole, unless a write failed; then nothing is said of how much of it was
pub record WritesText (old new : SinkSeen) (text : List ℕ) : Type 0 where
  pub faults : NeverFalls old.faults new.faults
  pub whole : (new.told ≡ option_map (λ written. written ++ text) old.told) ⊎ Rises old.faults new.faults

-- where an output tells its bytes it has fewer behind what it had than the text has, so it lacks some of it
abbrev pub LacksText : Option (List ℕ) → Option (List ℕ) → List ℕ → Type 0
LacksText told told' text = IfSome told (λ written. IsSomeAnd told' (λ written'. length written' < length written + length text))

-- the text was not written whole: a write failed, as the output counted, and where it tells its bytes it lacks some of the text
pub record LeavesUnwritten (old new : SinkSeen) (text : List ℕ) : Type 0 where
  pub failed : Rises old.faults new.faults
  pub lacks : LacksText old.told new.told text
