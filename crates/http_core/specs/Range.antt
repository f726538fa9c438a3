-- The value of a Range field, and what it selects (RFC 9110, sections 14.1 and 14.2).
use Rattle.std.specs.Prelude.{ℕ, ◌+◌, ◌-◌, ◌==◌, nat_lt, nat_le, min, Bool, List, length, take, drop, codes, Option, None, option_map, option_and_then, if◌then◌else◌}
use Rattle.std.specs.List.{after_first, before_first, position_or_len}
use Rattle.mpm_base.specs.Digits.{number_in_digits}
use Rattle.mpm_base.specs.LetterCase.{is_same_ignoring_case}
use Rattle.http_core.specs.declared.range.Range.{Range}
use Rattle.http_core.specs.declared.range.Range.TheVariants.{Between, From, Last}
use Rattle.http_core.specs.declared.range.Selection.{Selection}
use Rattle.http_core.specs.declared.range.Selection.TheVariants.{Whole, Part, Unsatisfiable}

-- a range by what stands before and after its dash: numbers of 1 to 18 decimal digits, of which one may be missing
abbrev pub range_between : List ℕ → List ℕ → Option Range
range_between before after =
    if length before == 0 then option_map (λ n. Last n) (number_in_digits 18 after)
    else (if length after == 0 then option_map (λ a. From a) (number_in_digits 18 before)
    else option_and_then (λ a. option_map (λ b. Between a b) (number_in_digits 18 after)) (number_in_digits 18 before))

-- the byte between two positions
abbrev pub is_dash : ℕ → Bool
is_dash b = b == 45

-- a range in bytes by what follows its unit
abbrev pub range_of_bytes : List ℕ → Option Range
range_of_bytes text =
    if nat_lt (position_or_len is_dash text) (length text) then range_between (before_first is_dash text) (after_first is_dash text)
    else None

-- one range in bytes; the case of the unit doesn't count, and every other text is none
abbrev pub range_in_value : List ℕ → Option Range
range_in_value text = if is_same_ignoring_case (take 6 text) (codes "bytes=") then range_of_bytes (drop 6 text) else None

-- what a range selects of so many bytes; one whose first position is behind its last is ignored
abbrev pub selection_of : ℕ → Range → Selection
selection_of size (Last n) = if n == 0 then Unsatisfiable else Part (size - n) size
selection_of size (From a) = if nat_le size a then Unsatisfiable else Part a size
selection_of size (Between a b) = if nat_lt b a then Whole else (if nat_le size a then Unsatisfiable else Part a (min (b + 1) size))
