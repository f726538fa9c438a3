-- The first items of a list, and the lines between two counts of it.
use Rattle.std.proofs.Common.{◌≡◌, ◌≤◌, ◌+◌, ◌-◌, ℕ, zero, suc, List, [], ◌∷◌, ◌++◌, drop, take, refl, sym, ap, ◌∙◌, arith}
use Rattle.std.proofs.lemmas.List.{drop-take, take-append-drop}
use Rattle.listener_round.specs.Pace.{lines_between}

take-shorter : (i j : ℕ) (xs : List (List ℕ)) → i ≤ j → take i (take j xs) ≡ take i xs
take-shorter zero j xs within = refl
take-shorter (suc i) zero xs within = absurd (omega (arith, within))
take-shorter (suc i) (suc j) [] within = refl
take-shorter (suc i) (suc j) (x ∷ xs) within = ap (λ (zs : List (List ℕ)). x ∷ zs) (take-shorter i j xs (omega (arith, within)))

-- the first lines, and those between, are the first up to there
pub first-both : (lines : List (List ℕ)) (from to : ℕ) → from ≤ to → take to lines ≡ take from lines ++ lines_between lines from to
first-both lines from to order =
    let up : to ≡ from + (to - from) = omega arith in
    let parts : take from (take to lines) ++ drop from (take to lines) ≡ take to lines = take-append-drop from (take to lines) in
    sym parts
    ∙ ap (λ (zs : List (List ℕ)). zs ++ drop from (take to lines)) (take-shorter from to lines order)
    ∙ ap (λ (n : ℕ). take from lines ++ drop from (take n lines)) up
    ∙ ap (λ (zs : List (List ℕ)). take from lines ++ zs) (drop-take from (to - from) lines)

-- one line more
pub between-none : (lines : List (List ℕ)) (from : ℕ) → lines_between lines from from ≡ []
between-none lines from =
    let none : from - from ≡ 0 = omega arith in
    ap (λ (n : ℕ). take n (drop from lines)) none
