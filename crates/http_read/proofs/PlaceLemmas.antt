-- The place of a byte in a text.
use Rattle.std.proofs.Common.{◌≡◌, ℕ, ◌≤◌, Bool, List, [], ◌∷◌, length, unwrap_or, arith}
use Rattle.std.specs.List.{position, position_or_len}
use Rattle.std.proofs.lemmas.Bool.Decides.{nat_tests}
use Rattle.std.proofs.lemmas.Grind.{common_steps}

pub position-le : (p : ℕ → Bool) (xs : List ℕ) → position_or_len p xs ≤ length xs
position-le p [] = omega arith
position-le p (x ∷ xs) = grind (arith, common_steps, position-le p xs)

-- the place where there is one, or the length
pub position-or : (p : ℕ → Bool) (xs : List ℕ) → unwrap_or (position p xs) (length xs) ≡ position_or_len p xs
position-or p xs = grind (arith, nat_tests, position-le p xs)
