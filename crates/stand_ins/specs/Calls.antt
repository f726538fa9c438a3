-- Which calls of a stand-in of the outside are to fail, by their numbers.
use Rattle.std.specs.Prelude.{ℕ, Bool, List, ◌==◌}
use Rattle.std.specs.List.{list_any}
use Rattle.mpm_base.specs.Count.{next_count}

-- the call of this number is to fail
abbrev pub is_listed : List ℕ → ℕ → Bool
is_listed calls number = list_any (λ listed. listed == number) calls

-- after so many calls, the next one is to fail
abbrev pub next_is_listed : List ℕ → ℕ → Bool
next_is_listed calls made = is_listed calls (next_count made)
