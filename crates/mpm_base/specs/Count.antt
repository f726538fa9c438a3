-- Counts that an object of the outside keeps. None falls. The one that stands at the greatest number of 64 bits can't rise.
-- Why it is so stands in docs/DECISIONS.md: 3, Counts of the outside.
use Rattle.std.specs.Prelude.{◌≡◌, ℕ, ◌+◌, ◌<◌, ◌≤◌, Bool, true, false, min}

-- the greatest number of 64 bits, 2 ^ 64 - 1, at which a count stays
abbrev pub greatest_count : ℕ
greatest_count = 18446744073709551615

-- one more, as far as a count goes
abbrev pub next_count : ℕ → ℕ
next_count n = min (n + 1) greatest_count

-- the count did not fall
abbrev pub NeverFalls : ℕ → ℕ → Type 0
NeverFalls old new = old ≤ new

-- the count rose; of one that stood at its greatest number nothing is said
abbrev pub Rises : ℕ → ℕ → Type 0
Rises old new = (old ≤ new) × (old < greatest_count → old < new)

-- the count rose where the test holds, and else stayed
abbrev pub RisesExactlyWhere : Bool → ℕ → ℕ → Type 0
RisesExactlyWhere true old new = Rises old new
RisesExactlyWhere false old new = new ≡ old

-- the count rose where the test holds, and in no case fell
abbrev pub RisesWhere : Bool → ℕ → ℕ → Type 0
RisesWhere true old new = Rises old new
RisesWhere false old new = NeverFalls old new

-- the count rose by one; of one that stood at its greatest number nothing is said, but that it did not fall
abbrev pub RisesByOne : ℕ → ℕ → Type 0
RisesByOne old new = (old ≤ new) × (old < greatest_count → new ≡ old + 1)

-- the count rose by one where the test holds, and else stayed
abbrev pub CountsWhere : Bool → ℕ → ℕ → Type 0
CountsWhere true old new = RisesByOne old new
CountsWhere false old new = new ≡ old

-- the count rose by just so many, while it is below its greatest number
abbrev pub RisesJustBy : ℕ → ℕ → ℕ → Type 0
RisesJustBy many old new = (old ≤ new) × (new < greatest_count → new ≡ old + many)
