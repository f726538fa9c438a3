-- What holds of the counts of a front some of whose calls fail.
use Rattle.std.specs.Prelude.{◌≡◌, ℕ, List, []}

-- where no wait is listed none failed, and where no accept is none did
pub record FailOnlyListed (fail_waits fail_accepts : List ℕ) (faults accept_faults : ℕ) : Type 0 where
  pub waits : fail_waits ≡ [] → faults ≡ 0
  pub accepts : fail_accepts ≡ [] → accept_faults ≡ 0
