-- Why the service of a connection ends.
use Rattle.std.specs.Prelude.{ℕ}
use Rattle.mpm_base.specs.declared.conn.Cause.{Cause}
use Rattle.mpm_base.specs.declared.conn.Cause.TheVariants as cause

-- the number of a cause: its place, from 0, in their order
abbrev pub cause_number : Cause → ℕ
cause_number cause.ClientDone = 0
cause_number cause.LastSent = 1
cause_number cause.KeepAliveLate = 2
cause_number cause.ReadLate = 3
cause_number cause.WriteLate = 4
cause_number cause.Retiring = 5
cause_number cause.LinkFailed = 6
cause_number cause.Stopped = 7
cause_number cause.NoMemory = 8
