-- What the steps of one caller found, place by place.
use Rattle.std.specs.Prelude.{◌≡◌, ◌≢◌, ◌⊎◌, ℕ, zero, suc, ◌+◌, ◌-◌, ◌≤◌, List, [], ◌∷◌, ◌++◌, map, length, slice_get, Some, Vec, vec_capacity}
use Rattle.recycle_perch.specs.declared.looks.Looks.{Looks}
use Rattle.recycle_perch.specs.declared.place.RestPlace.{RestPlace}
use Rattle.recycle_perch.specs.Words.{deeds, laid_none, laid_one, took_none, took_one}

-- ## The places, and looks at them

-- the names of the words of the places
abbrev pub word_names_of : {K : Type 0} → List (RestPlace K) → List ℕ
word_names_of places = map (λ place. place.perch.name) places

-- each place is for the carrier whose number is one more than the place's
abbrev pub AreInOrder : {K : Type 0} → List (RestPlace K) → Type 0
AreInOrder {K} places =
    (i : ℕ) (place : RestPlace K) → slice_get places i ≡ Some place → place.number ≡ i + 1

-- there is one place more behind all others, for the carrier of that number
abbrev pub HasPlaceMore : {K : Type 0} → ℕ → List (RestPlace K) → List (RestPlace K) → Type 0
HasPlaceMore {K} carrier before after =
    (place : RestPlace K) × (after ≡ before ++ place ∷ []) × (place.number ≡ carrier)

-- what the steps at each place did
abbrev pub steps_of : Looks → List (List (ℕ × ℕ))
steps_of looks = map (λ mark. deeds mark.view) looks.marks.items

-- the looks are at the words of these names, in their order, and have room for so many
pub record LookAt (names : List ℕ) (most : ℕ) (looks : Looks) : Type 0 where
  pub words : map (λ mark. mark.perch) looks.marks.items ≡ names
  pub room : vec_capacity looks.marks ≡ most

-- each of them is at the words of these names
abbrev pub AllLookAt : List ℕ → ℕ → List Looks → Type 0
AllLookAt names most all =
    (i : ℕ) (looks : Looks) → slice_get all i ≡ Some looks → LookAt names most looks

-- the looks are at these places
abbrev pub AreOf : {K Z : Type 0} → Vec (RestPlace K) Z → Looks → Type 0
AreOf places looks = LookAt (word_names_of places.items) (vec_capacity places) looks

-- each of them is at these places
abbrev pub AllAreOf : {K Z : Type 0} → Vec (RestPlace K) Z → List Looks → Type 0
AllAreOf places all = AllLookAt (word_names_of places.items) (vec_capacity places) all

-- ## The steps of one call

-- one step more at a place, where there is that place
abbrev pub with_step_at : ℕ → ℕ × ℕ → List (List (ℕ × ℕ)) → List (List (ℕ × ℕ))
with_step_at place step [] = []
with_step_at zero step (before ∷ others) = (before ++ step ∷ []) ∷ others
with_step_at (suc place) step (before ∷ others) = before ∷ with_step_at place step others

-- one step more at each place, which found none there, and left none
pub record FoundNone (before after : List (List (ℕ × ℕ))) : Type 0 where
  pub long : length after ≡ length before
  pub each : (place : ℕ) (known : List (ℕ × ℕ))
      → slice_get before place ≡ Some known
      → slice_get after place ≡ Some (known ++ took_none ∷ [])

-- at the place no step more, or one which found none there, and left none
abbrev pub MayHaveTried : List (List (ℕ × ℕ)) → List (List (ℕ × ℕ)) → ℕ → Type 0
MayHaveTried before after place =
    (known : List (ℕ × ℕ))
    → slice_get before place ≡ Some known
    → (slice_get after place ≡ Some known) ⊎ (slice_get after place ≡ Some (known ++ took_none ∷ []))

-- the carrier of that number was taken from its place, by one step more there; whatever other places were tried, by one step each,
-- none was found there
pub record WasTaken (carrier : ℕ) (before after : List (List (ℕ × ℕ))) : Type 0 where
  pub long : length after ≡ length before
  pub some : 1 ≤ carrier
  pub within : carrier ≤ length before
  pub there : (known : List (ℕ × ℕ))
      → slice_get before (carrier - 1) ≡ Some known
      → slice_get after (carrier - 1) ≡ Some (known ++ took_one ∷ [])
  pub others : (place : ℕ) → place ≢ carrier - 1 → MayHaveTried before after place

-- the carrier of that number was laid down on its place, where none rested, by one step there and no other
pub record WasLaidDown (carrier : ℕ) (before after : List (List (ℕ × ℕ))) : Type 0 where
  pub within : carrier ≤ length before
  pub steps : after ≡ with_step_at (carrier - 1) laid_one before

-- the carrier of that number came back: by one step on its place, and no other, one was found there; where it has none no step was made
abbrev pub CameBack : ℕ → List (List (ℕ × ℕ)) → List (List (ℕ × ℕ)) → Type 0
CameBack carrier before after = after ≡ with_step_at (carrier - 1) laid_none before
