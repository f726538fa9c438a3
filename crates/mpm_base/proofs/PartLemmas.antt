-- Texts in two parts.
use Rattle.std.proofs.Common.{◌≡◌, ℕ, ◌&&◌, List, [], ◌∷◌, ◌++◌, length, drop, refl, arith, eqb}
use Rattle.std.specs.List.{starts_with}
use Rattle.std.specs.Str.{bytes_eq}
use Rattle.std.proofs.lemmas.Bool.Decides.{nat_tests}

-- a text is one in two parts where it begins with the front and goes on with the back
pub made_of : (text front back : List ℕ) → bytes_eq text (front ++ back) ≡ (starts_with eqb text front && bytes_eq (drop (length front) text) back)
made_of text [] back = refl
made_of [] (f ∷ fs) back = refl
made_of (n ∷ ns) (f ∷ fs) back = grind (arith, nat_tests, made_of ns fs back)
