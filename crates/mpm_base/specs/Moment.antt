-- Moments: milliseconds since 1970-01-01 00:00:00 UTC.
use Rattle.std.specs.Prelude.{ℕ, ◌/◌, ◌<◌, min}

-- the greatest moment, the last of the year 9999
abbrev pub greatest_moment : ℕ
greatest_moment = 253402300799999

-- the second, counted as moments are, is one of the years up to 9999
abbrev pub IsSecond : ℕ → Type 0
IsSecond second = second < 253402300800

-- the last of these
abbrev pub greatest_second : ℕ
greatest_second = 253402300799

-- the second of that number, where one behind the last counts as the last
abbrev pub second_at_most : ℕ → ℕ
second_at_most number = min number greatest_second

-- the second in which a moment lies
abbrev pub second_of : ℕ → ℕ
second_of moment = second_at_most (moment / 1000)
