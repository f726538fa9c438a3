-- The time of a log line: the date and the time of day of a second since 1970-01-01 00:00:00 UTC, by the Gregorian calendar.
use Rattle.std.specs.Prelude.{ℕ, zero, suc, ◌+◌, ◌-◌, ◌/◌, ◌%◌, nat_le, Bool, List, ◌++◌, codes, if◌then◌else◌}
use Rattle.httpdate.specs.declared.parts.Parts.{Parts}
use Rattle.httpdate.specs.Calendar.{days_of_years, days_of_months, weekday}
use Rattle.httpdate.specs.Text.{two_digits, four_digits, month_name, time_of_day}

-- the greatest number, up to this one, that passes the test; 0 where none does
unfoldable pub greatest : (ℕ → Bool) → ℕ → ℕ
greatest passes zero = 0
greatest passes (suc n) = if passes (suc n) then suc n else greatest passes n

-- how many whole years, from 1970 on and none but those before 9999, have gone by when so many days have
unfoldable pub years_gone : ℕ → ℕ
years_gone days = greatest (λ n. nat_le (days_of_years n) days) (9999 - 1970)

-- how many whole months of a year, December not among them, have gone by when so many of its days have
unfoldable pub months_gone : ℕ → ℕ → ℕ
months_gone year days = greatest (λ n. nat_le (days_of_months year n) days) 11

-- how many days of its year have gone by when so many have since 1970
abbrev pub days_of_year : ℕ → ℕ
days_of_year days = days - days_of_years (years_gone days)

-- the numbers of the date and the time of day when so many days and seconds have gone by
abbrev pub parts_after : ℕ → ℕ → Parts
parts_after days seconds =
    let year = 1970 + years_gone days in
    let months = months_gone year (days_of_year days) in
    record {
      year = year;
      mon = months + 1;
      day = days_of_year days - days_of_months year months + 1;
      hour = seconds / 3600;
      min = seconds / 60 % 60;
      sec = seconds % 60;
      wday = weekday days;
    }

-- the numbers of the date and the time of day at a second
unfoldable pub parts_at : ℕ → Parts
parts_at second = parts_after (second / 86400) (second % 86400)

-- day, month, year and time of day, as `01/Jan/1970:00:00:00`
abbrev pub time_text : Parts → List ℕ
time_text p =
    two_digits p.day ++ codes "/" ++ month_name p.mon ++ codes "/" ++ four_digits p.year ++ codes ":" ++ time_of_day p
