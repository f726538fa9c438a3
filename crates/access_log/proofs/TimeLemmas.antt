-- The numbers of a date and a time of day are those of the date that HTTP has for its second.
use Rattle.std.proofs.Common.{◌≡◌, ℕ, zero, suc, ◌+◌, ◌-◌, ◌*◌, ◌/◌, ◌%◌, ◌<◌, ◌≤◌, ◌⊎◌, inl, inr, nat_le, Bool, true, false, refl, sym, ap, ◌∙◌, arith}
use Rattle.std.proofs.lemmas.Bool.{cases_lt, cases_Bool, leb-false}
use Rattle.std.proofs.lemmas.Bool.Decides.{nat_tests}
use Rattle.httpdate.specs.declared.parts.Parts.{Parts}
use Rattle.httpdate.specs.declared.date.HttpDate.{HttpDate}
use Rattle.httpdate.specs.Calendar.{IsCivilDate, IsTimeOfDay, days_in_year, days_of_years, days_of_months, days_from_civil, weekday}
use Rattle.httpdate.specs.Date.{unix_secs}
use Rattle.httpdate.proofs.CalendarLemmas.{days_from_civil_year, days_from_civil_month, days_of_years_closed}
use Rattle.mpm_base.specs.Moment.{IsSecond}
use Rattle.access_log.specs.LogTime.{greatest, years_gone, months_gone, days_of_year, parts_after, parts_at}

-- ## The greatest number that passes

greatest_is : (p : ℕ → Bool) (k n : ℕ) → k ≤ n → (0 < k → p k ≡ true) → ((j : ℕ) → k < j → p j ≡ false) → greatest p n ≡ k
unfolding greatest
greatest_is p k zero h passing failing = omega arith
greatest_is p k (suc n) h passing failing =
    elim (cases_lt k (suc n)) [
      | inl below ↦
          let fails : p (suc n) ≡ false = failing (suc n) below in
          rw fails (greatest_is p k n (omega arith) passing failing)
      | inr above ↦
          let same : k ≡ suc n = omega arith in
          let passes : p (suc n) ≡ true = rw same at (passing (omega arith)) in
          rw passes (sym same)
    ]

greatest_within : (p : ℕ → Bool) (n : ℕ) → greatest p n ≤ n
unfolding greatest
greatest_within p zero = omega arith
greatest_within p (suc n) =
    elim (cases_Bool (p (suc n))) [
      | inl passes ↦ rw passes (omega arith)
      | inr fails ↦ let before = greatest_within p n in rw fails (omega arith)
    ]

-- it is the last one, or the next one fails
greatest_ends : (p : ℕ → Bool) (n : ℕ) → (greatest p n ≡ n) ⊎ (p (suc (greatest p n)) ≡ false)
unfolding greatest
greatest_ends p zero = inl refl
greatest_ends p (suc n) =
    elim (cases_Bool (p (suc n))) [
      | inl passes ↦ inl (rw passes refl)
      | inr fails ↦
          rw fails (elim (greatest_ends p n) [
            | inl last ↦ inr (rw last fails)
            | inr next ↦ inr next
          ])
    ]

-- ## The date

module _ (y m d : ℕ) (civil : IsCivilDate y m d) where
  -- a date lies before each later year, and before each later month of its year
  before_year : (n : ℕ) → y < 1970 + n → days_from_civil y m d < days_of_years n
  unfolding days_of_months
  before_year n later =
      let begin : 1970 + n - 1970 ≡ n = omega arith in
      let before = days_from_civil_year y m d (1970 + n) 1 1 civil later in
      omega (arith, rw begin at before)

  before_month : (n : ℕ) → m < n + 1 → days_of_months y (m - 1) + (d - 1) < days_of_months y n
  before_month n later =
      let begin : n + 1 - 1 ≡ n = omega arith in
      let before = days_from_civil_month y m d (n + 1) 1 civil later in
      omega (arith, rw begin at before)

  years : years_gone (days_from_civil y m d) ≡ y - 1970
  unfolding years_gone
  years =
      greatest_is (λ n. nat_le (days_of_years n) (days_from_civil y m d)) (y - 1970) (9999 - 1970) (omega (arith, civil)) (λ _. grind (arith, nat_tests))
      (λ j later. let before = before_year j (omega (arith, civil)) in grind (arith, nat_tests))

  year : 1970 + (y - 1970) ≡ y
  year = omega (arith, civil)

  rest : days_of_year (days_from_civil y m d) ≡ days_of_months y (m - 1) + (d - 1)
  rest = rw years (omega arith)

  months : months_gone y (days_of_months y (m - 1) + (d - 1)) ≡ m - 1
  unfolding months_gone
  months =
      greatest_is (λ n. nat_le (days_of_months y n) (days_of_months y (m - 1) + (d - 1))) (m - 1) 11 (omega (arith, civil)) (λ _. grind (arith, nat_tests))
      (λ j later. let before = before_month j (omega (arith, civil)) in grind (arith, nat_tests))

  year_is : (seconds : ℕ) → (parts_after (days_from_civil y m d) seconds).year ≡ y
  year_is seconds = rw years year

  month_is : (seconds : ℕ) → (parts_after (days_from_civil y m d) seconds).mon ≡ m
  month_is seconds = rw (rest, years, year, months) (omega (arith, civil))

  day_is : (seconds : ℕ) → (parts_after (days_from_civil y m d) seconds).day ≡ d
  day_is seconds = rw (rest, years, year, months) (omega (arith, civil))

-- ## The time of day

day_of_second : (days hour min sec : ℕ) → IsTimeOfDay hour min sec → (days * 86400 + hour * 3600 + min * 60 + sec) / 86400 ≡ days
day_of_second days hour min sec time = omega (arith, time)

second_of_day : (days hour min sec : ℕ) → IsTimeOfDay hour min sec
    → (days * 86400 + hour * 3600 + min * 60 + sec) % 86400 ≡ hour * 3600 + min * 60 + sec
second_of_day days hour min sec time = omega (arith, time)

hour_is : (hour min sec : ℕ) → IsTimeOfDay hour min sec → (hour * 3600 + min * 60 + sec) / 3600 ≡ hour
hour_is hour min sec time = omega (arith, time)

minute_is : (hour min sec : ℕ) → IsTimeOfDay hour min sec → (hour * 3600 + min * 60 + sec) / 60 % 60 ≡ min
minute_is hour min sec time = omega (arith, time)

second_is : (hour min sec : ℕ) → IsTimeOfDay hour min sec → (hour * 3600 + min * 60 + sec) % 60 ≡ sec
second_is hour min sec time = omega (arith, time)

-- ## Together

after_is : (p : Parts) → IsCivilDate p.year p.mon p.day → IsTimeOfDay p.hour p.min p.sec → p.wday ≡ weekday (days_from_civil p.year p.mon p.day)
    → parts_after (days_from_civil p.year p.mon p.day) (p.hour * 3600 + p.min * 60 + p.sec) ≡ p
after_is p civil time right_day =
    let seconds = p.hour * 3600 + p.min * 60 + p.sec in
    let year = year_is p.year p.mon p.day civil seconds in
    let mon = month_is p.year p.mon p.day civil seconds in
    let day = day_is p.year p.mon p.day civil seconds in
    let hour = hour_is p.hour p.min p.sec time in
    let min = minute_is p.hour p.min p.sec time in
    let sec = second_is p.hour p.min p.sec time in
    let wday = sym right_day in
    λ i. record { year = year i; mon = mon i; day = day i; hour = hour i; min = min i; sec = sec i; wday = wday i }

pub parts_are : (date : HttpDate) → parts_at (unix_secs date) ≡ date.parts
unfolding parts_at
parts_are date =
    let p = date.parts in
    let days = days_from_civil p.year p.mon p.day in
    ap (λ n. parts_after n (unix_secs date % 86400)) (day_of_second days p.hour p.min p.sec date.time)
    ∙ ap (parts_after days) (second_of_day days p.hour p.min p.sec date.time)
    ∙ after_is p date.civil date.time date.right_day

-- ## How great the numbers are

year_len : (y : ℕ) → days_in_year y ≤ 366
year_len y = grind arith

next_year : (n : ℕ) → days_of_years (suc n) ≤ days_of_years n + 366
unfolding days_of_years
next_year n = let len = year_len (1970 + n) in omega arith

year_ends : (days : ℕ) → days < 2932897 → days < days_of_years (suc (years_gone days))
unfolding years_gone
year_ends days h =
    elim (greatest_ends (λ n. nat_le (days_of_years n) days) (9999 - 1970)) [
      | inl last ↦ let all = days_of_years_closed 8030 in rw last (omega arith)
      | inr next ↦ leb-false _ _ next
    ]

pub day_within : (second : ℕ) → IsSecond second → (parts_at second).day < 400
unfolding parts_at
day_within second h =
    let days = second / 86400 in
    let ends = year_ends days (omega arith) in
    let next = next_year (years_gone days) in
    omega arith

pub year_within : (second : ℕ) → (parts_at second).year < 10000
unfolding parts_at years_gone
year_within second =
    let within = greatest_within (λ n. nat_le (days_of_years n) (second / 86400)) (9999 - 1970) in
    omega arith

pub hour_within : (second : ℕ) → (parts_at second).hour < 24
unfolding parts_at
hour_within second = omega arith

pub minute_within : (second : ℕ) → (parts_at second).min < 60
unfolding parts_at
minute_within second = omega arith

pub second_within : (second : ℕ) → (parts_at second).sec < 60
unfolding parts_at
second_within second = omega arith
