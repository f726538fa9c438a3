-- What each place of a list has that was made of the same items, or of those of another list by their places.
use Rattle.std.proofs.Common.{◌≡◌, ℕ, zero, suc, ◌+◌, ◌<◌, List, [], ◌∷◌, length, map, replicate, refl, ap, ◌∙◌, arith}
use Rattle.std.specs.Prelude.{slice_index_or}
use Rattle.std.specs.List.{enumerate_from}

-- each has the same, also where there is no place
pub each_first : {X : Type 0} (count p : ℕ) (d : X) → slice_index_or (replicate count d) p d ≡ d
each_first zero p d = refl
each_first (suc n) zero d = refl
each_first (suc n) (suc p) d = each_first n p d

-- each has what the change makes of the item at its place
each_from : {X : Type 0} (change : ℕ → X → X) (xs : List X) (first p : ℕ) (d : X) → p < length xs
    → slice_index_or (map (λ (q : ℕ × X). change q.0 q.1) (enumerate_from first xs)) p d ≡ change (first + p) (slice_index_or xs p d)
each_from change [] first p d lt = absurd (omega arith)
each_from change (x ∷ xs) first zero d lt = let e : first ≡ first + 0 = omega arith in ap (λ i. change i x) e
each_from change (x ∷ xs) first (suc p) d lt =
    let e : first + 1 + p ≡ first + suc p = omega arith in
    each_from change xs (first + 1) p d (omega arith) ∙ ap (λ i. change i (slice_index_or xs p d)) e

pub each_after : {X : Type 0} (change : ℕ → X → X) (xs : List X) (p : ℕ) (d : X) → p < length xs
    → slice_index_or (map (λ (q : ℕ × X). change q.0 q.1) (enumerate_from 0 xs)) p d ≡ change p (slice_index_or xs p d)
each_after change xs p d lt =
    let e : 0 + p ≡ p = omega arith in each_from change xs 0 p d lt ∙ ap (λ i. change i (slice_index_or xs p d)) e
