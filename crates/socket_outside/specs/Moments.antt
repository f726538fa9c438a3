-- The moments of the system's clock.
use Rattle.std.specs.Prelude.{ℕ, ◌+◌, ◌-◌, ◌/◌, max, min, Option, None, Some}
use Rattle.mpm_base.specs.Moment.{greatest_moment}

-- the moment so many nanoseconds behind another number of them, both counted from 1970 on, cut to the greatest moment
abbrev pub moment_behind : ℕ → ℕ → ℕ
moment_behind start since = min ((start + since) / 1000000) greatest_moment

-- what a clock that answered this moment last answers: what it reads, or where it can't be read the moment that it was told;
-- but never one before the last
abbrev pub clock_answer : ℕ → ℕ → Option ℕ → ℕ
clock_answer last at (Some moment) = max last moment
clock_answer last at None = max last at

-- the moment at which the clock that never goes back says the one number of nanoseconds, where it said the other as the system's time was
-- so many of them behind 1970: that time, and what passed since. The system's time is not asked again
abbrev pub moment_since : ℕ → ℕ → ℕ → ℕ
moment_since started at now = moment_behind started (now - at)
