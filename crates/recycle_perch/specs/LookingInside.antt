-- What helps to prove, and no public contract reaches, of: What the steps of one caller found, place by place.
use Rattle.std.specs.Prelude.{◌≡◌, ◌⊎◌, ℕ, ◌-◌, ◌<◌, ◌≤◌, List, [], ◌∷◌, ◌++◌, length, slice_get, Some}
use Rattle.recycle_perch.specs.Looking.{with_step_at}
use Rattle.recycle_perch.specs.Words.{took_none, took_one}

-- at each place from the first to before the second one step more was made, which found none there; at no other place one was made
pub record TriedBetween (from to : ℕ) (before after : List (List (ℕ × ℕ))) : Type 0 where
  pub long : length after ≡ length before
  pub tried : (place : ℕ) (known : List (ℕ × ℕ))
      → from ≤ place
      → place < to
      → slice_get before place ≡ Some known
      → slice_get after place ≡ Some (known ++ took_none ∷ [])
  pub untried : (place : ℕ) (known : List (ℕ × ℕ))
      → (place < from) ⊎ (to ≤ place)
      → slice_get before place ≡ Some known
      → slice_get after place ≡ Some known

-- the carrier of that number was taken from its place, which is one of these, once those before it were tried
pub record TakenBetween (from to carrier : ℕ) (before after : List (List (ℕ × ℕ))) : Type 0 where
  pub some : from < carrier
  pub within : carrier ≤ to
  pub now : List (List (ℕ × ℕ))
  pub so_far : TriedBetween from (carrier - 1) before now
  pub last : after ≡ with_step_at (carrier - 1) took_one now
