-- What a round makes of what a wait gave: the moment to which time passes, and the slots that are signalled.
use Rattle.std.specs.Prelude.{ℕ, List, [], ◌∷◌, filter, min, nat_lt, if◌then◌else◌}
use Rattle.mpm_base.specs.Moment.{greatest_moment}

-- ## Ticks

-- the moment to which time passes, where it is later
abbrev pub ticks_to : ℕ → ℕ → List ℕ
ticks_to moment to = if nat_lt moment to then to ∷ [] else []

-- the moment that a clock's answer gives: it ends at the greatest one
abbrev pub moment_for : ℕ → ℕ
moment_for answer = min answer greatest_moment

-- ## Signals

-- of the slots those that a table of so many has
abbrev pub known_slots : ℕ → List ℕ → List ℕ
known_slots rows slots = filter (λ slot. nat_lt slot rows) slots
