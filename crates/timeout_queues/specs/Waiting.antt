-- What the timeout queues hold as their callers see it: a map from the parked names to kind and
-- deadline.
--
-- A slot has at most one parked name, so the map is a list by slot: of each slot what is parked in
-- it, or None.
use Rattle.std.specs.Prelude.{◌≡◌, ◌≢◌, ℕ, ◌≤◌, nat_le, min, ◌==◌, if◌then◌else◌, List, Option, Some, None, IsSomeAnd, slice_get, slice_set, slice_index_or, map, filter, filter_map, option_map, option_and_then, replicate}
use Rattle.std.specs.List.{reduce}
use Rattle.mpm_base.specs.declared.conn.ConnName.{ConnName}
use Rattle.mpm_base.specs.declared.conn.Kind.{Kind}

-- what is parked in a slot: the life of its name, what it waits for, and until when
pub record ParkedName : Type 0 where
  pub life : ℕ
  pub kind : Kind
  pub deadline : ℕ

-- the queues of n slots without a parked name
abbrev pub nothing_parked : ℕ → List (Option ParkedName)
nothing_parked n = replicate n None

-- the slot is one of the queues', and no name of it is parked
abbrev pub IsFree : List (Option ParkedName) → ℕ → Type 0
IsFree slots slot = slice_get slots slot ≡ Some None

-- what is parked in a slot, where its name has this life
abbrev pub in_life : ℕ → ParkedName → Option ParkedName
in_life life p = if p.life == life then Some p else None

-- the map: what is parked under a name, and None of any other name
abbrev pub parked_of : List (Option ParkedName) → ConnName → Option ParkedName
parked_of slots name = option_and_then (in_life name.life) (slice_index_or slots name.slot None)

-- what is parked under the name, for this and until then
abbrev pub parked_as : ConnName → Kind → ℕ → ParkedName
parked_as name kind deadline = record { life = name.life; kind = kind; deadline = deadline }

-- the queues after a name was parked
abbrev pub with_parked : List (Option ParkedName) → ConnName → Kind → ℕ → List (Option ParkedName)
with_parked slots name kind deadline =
    slice_set slots name.slot (Some (parked_as name kind deadline))

-- the queues after a parked name was taken out
abbrev pub without_name : List (Option ParkedName) → ConnName → List (Option ParkedName)
without_name slots name = slice_set slots name.slot None

-- the map has this at the name, and at every other name what it had
pub record Updates (old new : List (Option ParkedName)) (name : ConnName)
    (parked : Option ParkedName) : Type 0 where
  pub changed : parked_of new name ≡ parked
  pub others : (other : ConnName) → other ≢ name → parked_of new other ≡ parked_of old other

-- all that is parked, by rising slot
abbrev pub all_parked : List (Option ParkedName) → List ParkedName
all_parked slots = filter_map (λ slot. slot) slots

-- what is late: its deadline is at or before the moment
abbrev pub overdue_at : ℕ → List (Option ParkedName) → List ParkedName
overdue_at now slots = filter (λ p. nat_le p.deadline now) (all_parked slots)

-- the least deadline of all that is parked
abbrev pub least_deadline : List (Option ParkedName) → Option ℕ
least_deadline slots = reduce min (map (λ p. p.deadline) (all_parked slots))

-- the name is parked, and late
abbrev pub IsPastDeadline : List (Option ParkedName) → ℕ → ConnName → Type 0
IsPastDeadline slots now name = IsSomeAnd (parked_of slots name) (λ p. p.deadline ≤ now)

-- the name's deadline
abbrev pub deadline_of : List (Option ParkedName) → ConnName → Option ℕ
deadline_of slots name = option_map (λ p. p.deadline) (parked_of slots name)
