-- Places at which something may be due, and the clients that stand there.
use Rattle.std.specs.Prelude.{◌≡◌, ◌⊎◌, ℕ, suc, ◌+◌, ◌*◌, ◌<◌, ◌≤◌, Bool, true, false, List, length, slice_index_or, slice_set, Option, None}
use Rattle.mpm_base.specs.declared.conn.ConnName.{ConnName}
use Rattle.script_front.specs.declared.due_places.DuePlaces.{DuePlaces}
use Rattle.script_front.specs.Signals.{LooksAt, SeenClient}

-- there is a block of 64 places for each, and that of a marked place is marked
pub record AreTold (marks blocks : List Bool) : Type 0 where
  pub few : length marks < 64 * length blocks
  pub each : (b k : ℕ) → 64 * b ≤ k → k < 64 * b + 64 → slice_index_or marks k false ≡ true → slice_index_or blocks b false ≡ true

-- all marked places stand between the two, and their blocks are marked
pub record AreMarked (due : DuePlaces) : Type 0 where
  pub low_within : due.low ≤ length due.marks.items
  pub high_within : due.high ≤ length due.marks.items
  pub below : (k : ℕ) → k < due.low → slice_index_or due.marks.items k false ≡ false
  pub above : (k : ℕ) → due.high ≤ k → slice_index_or due.marks.items k false ≡ false
  pub told : AreTold due.marks.items due.blocks.items

-- no place from the one up to the other is marked
abbrev pub AreUnmarked : List Bool → ℕ → ℕ → Type 0
AreUnmarked marks low high = (k : ℕ) → low ≤ k → k < high → slice_index_or marks k false ≡ false

-- the place is the lowest of those from the one up to the other that is marked
pub record IsLowest (marks : List Bool) (low high place : ℕ) : Type 0 where
  pub from : low ≤ place
  pub within : place < high
  pub is_marked : slice_index_or marks place false ≡ true
  pub unmarked : AreUnmarked marks low place

-- the mark was taken from the lowest place that had one
pub record TakesLowest (place : ℕ) (old new : DuePlaces) : Type 0 where
  pub from : old.low ≤ place
  pub within : place < length old.marks.items
  pub was_marked : slice_index_or old.marks.items place false ≡ true
  pub unmarked : AreUnmarked old.marks.items old.low place
  pub marks_are : new.marks.items ≡ slice_set old.marks.items place false
  pub low_is : new.low ≡ suc place

-- where no place is marked the client's link isn't watched, or no signal is due for it
abbrev pub Covers : List Bool → List SeenClient → List (Option ConnName) → Type 0
Covers marks clients watched =
    (k : ℕ) (client : SeenClient) → k < length clients → slice_index_or marks k false ≡ false
    → (slice_index_or watched k None ≡ None) ⊎ ((slice_index_or clients k client).due ≡ false)

-- the front looked at some of the links
pub record AllLook (clients found : List SeenClient) : Type 0 where
  pub each : length found ≡ length clients
  pub looks : (k : ℕ) (client : SeenClient) → k < length clients → LooksAt (slice_index_or clients k client) (slice_index_or found k client)
