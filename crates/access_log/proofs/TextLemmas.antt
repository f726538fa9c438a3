-- The time of a line is made of bytes of the date that HTTP has.
use Rattle.std.proofs.Common.{◌≡◌, ℕ, zero, suc, ◌-◌, ◌<◌, ◌==◌, true, List, [], ◌∷◌, ◌++◌, length, codes, refl, sym, ap, ◌∙◌, arith, get_or}
use Rattle.std.specs.List.{list_all}
use Rattle.std.proofs.lemmas.Bool.{and_parts, eqb-true}
use Rattle.httpdate.specs.declared.parts.Parts.{Parts}
use Rattle.httpdate.specs.declared.date.HttpDate.{HttpDate}
use Rattle.httpdate.specs.Calendar.{days_from_civil, weekday}
use Rattle.httpdate.specs.Date.{date_text}
use Rattle.httpdate.specs.Text.{day_name, four_digits, month_name, time_of_day, two_digits}
use Rattle.access_log.specs.LogTime.{time_text}

-- ## Names of three letters

record HasThree (text : List ℕ) : Type 0 where
  first : ℕ
  second : ℕ
  third : ℕ
  text_is : text ≡ first ∷ second ∷ third ∷ []

three_of : (text : List ℕ) → length text ≡ 3 → HasThree text
three_of [] h = absurd (omega arith)
three_of (a ∷ []) h = absurd (omega arith)
three_of (a ∷ b ∷ []) h = absurd (omega arith)
three_of (a ∷ b ∷ c ∷ []) h = record { first = a; second = b; third = c; text_is = refl }
three_of (a ∷ b ∷ c ∷ d ∷ rest) h = absurd (omega arith)

name_of : (names : List (List ℕ)) → list_all (λ name. length name == 3) names ≡ true → (i : ℕ) → i < length names → HasThree (get_or names i [])
name_of [] h i within = absurd (omega arith)
name_of (name ∷ names) h zero within =
    three_of name (eqb-true (length name) 3 (and_parts (length name == 3) (list_all (λ name. length name == 3) names) h).0)
name_of (name ∷ names) h (suc i) within =
    name_of names (and_parts (length name == 3) (list_all (λ name. length name == 3) names) h).1 i (omega arith)

day_three : (day : ℕ) → day < 8 → HasThree (day_name day)
day_three day h =
    name_of (codes "Mon" ∷ codes "Tue" ∷ codes "Wed" ∷ codes "Thu" ∷ codes "Fri" ∷ codes "Sat" ∷ codes "Sun" ∷ []) refl (day - 1) (omega arith)

month_three : (month : ℕ) → month < 13 → HasThree (month_name month)
month_three month h =
    name_of (codes "Jan" ∷ codes "Feb" ∷ codes "Mar" ∷ codes "Apr" ∷ codes "May" ∷ codes "Jun" ∷ codes "Jul" ∷ codes "Aug" ∷ codes "Sep" ∷ codes "Oct" ∷ codes "Nov" ∷ codes "Dec" ∷ []) refl (month - 1) (omega arith)

-- ## The bytes

-- what is taken of a date
abbrev pub taken : List ℕ → List ℕ
taken text =
    get_or text 5 0 ∷ get_or text 6 0 ∷ 47 ∷ get_or text 8 0 ∷ get_or text 9 0 ∷ get_or text 10 0 ∷ 47 ∷ get_or text 12 0 ∷ get_or text 13 0
    ∷ get_or text 14 0 ∷ get_or text 15 0 ∷ 58 ∷ get_or text 17 0 ∷ get_or text 18 0 ∷ get_or text 19 0 ∷ get_or text 20 0 ∷ get_or text 21 0
    ∷ get_or text 22 0 ∷ get_or text 23 0 ∷ get_or text 24 0 ∷ []

-- a date, and a time of a line, with these names
abbrev date_by : List ℕ → List ℕ → Parts → List ℕ
date_by day month p = day ++ codes ", " ++ two_digits p.day ++ codes " " ++ month ++ codes " " ++ four_digits p.year ++ codes " " ++ time_of_day p ++ codes " GMT"

abbrev time_by : List ℕ → Parts → List ℕ
time_by month p = two_digits p.day ++ codes "/" ++ month ++ codes "/" ++ four_digits p.year ++ codes ":" ++ time_of_day p

letters : (a b c d e f : ℕ) (p : Parts) → taken (date_by (a ∷ b ∷ c ∷ []) (d ∷ e ∷ f ∷ []) p) ≡ time_by (d ∷ e ∷ f ∷ []) p
letters a b c d e f p = refl

weekday_small : (days day : ℕ) → day ≡ weekday days → day < 8
weekday_small days day h = omega (arith, h)

pub taken_is : (date : HttpDate) → taken (date_text date) ≡ time_text date.parts
taken_is date =
    let p = date.parts in
    let day = day_three p.wday (weekday_small (days_from_civil p.year p.mon p.day) p.wday date.right_day) in
    let month = month_three p.mon (omega (arith, date.civil)) in
    ap (λ name. taken (date_by name (month_name p.mon) p)) day.text_is
    ∙ ap (λ name. taken (date_by (day.first ∷ day.second ∷ day.third ∷ []) name p)) month.text_is
    ∙ letters day.first day.second day.third month.first month.second month.third p ∙ ap (λ name. time_by name p) (sym month.text_is)
