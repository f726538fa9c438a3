-- When a file was changed, by what the system tells.
use Rattle.std.specs.Prelude.{ℕ, ◌/◌, Result, Ok, Err}
use Rattle.std.specs.Time.{system_time_nanos}
use Rattle.std.specs.declared.io.Error.{Error}
use Rattle.std.specs.declared.time.SystemTime.{SystemTime}
use Rattle.mpm_base.specs.Moment.{second_at_most}

-- the second of the time; where none was told, as of a time before 1970, it is 0
abbrev pub second_for : Result SystemTime Error → ℕ
second_for (Ok time) = second_at_most (system_time_nanos time / 1000000000)
second_for (Err e) = 0
