-- Pieces that are written one behind the other.
use Rattle.std.proofs.Common.{◌≡◌, ℕ, List, ◌++◌, ap, ◌∙◌, append_assoc}

-- one more piece behind those that were written
pub one_more : (start pieces piece text text' : List ℕ) → text ≡ start ++ pieces → text' ≡ text ++ piece → text' ≡ start ++ (pieces ++ piece)
one_more start pieces piece text text' e e' = e' ∙ ap (λ t. t ++ piece) e ∙ append_assoc start pieces piece
