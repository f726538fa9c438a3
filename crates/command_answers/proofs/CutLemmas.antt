-- What fits behind a text.
use Rattle.std.proofs.Common.{◌≡◌, ℕ, ◌+◌, ◌-◌, ◌≤◌, inl, inr, List, ◌++◌, length, take, min, nat_lt, refl, sym, ap, subst, ◌∙◌, arith}
use Rattle.std.proofs.Math.Seq.{take-append-add}
use Rattle.std.proofs.lemmas.Bool.{cases_Bool}
use Rattle.std.proofs.lemmas.Bool.Decides.{nat_tests}
use Rattle.std.proofs.lemmas.List.{take_all}

-- of a list that is shorter all is taken
take-min : (n : ℕ) (xs : List ℕ) → take (min (length xs) n) xs ≡ take n xs
take-min n xs =
    elim (cases_Bool (nat_lt (length xs) n)) [
      | inl few ↦ take_all (min (length xs) n) xs (grind (arith, nat_tests, few)) ∙ sym (take_all n xs (grind (arith, nat_tests, few)))
      | inr many ↦ ap (λ k. take k xs) (grind (arith, nat_tests, many))
    ]

-- as many bytes as there is room for behind a text
pub cut : (old bytes : List ℕ) (n : ℕ) → length old ≤ n → old ++ take (min (length bytes) (n - length old)) bytes ≡ take n (old ++ bytes)
cut old bytes n fits =
    ap (λ ys. old ++ ys) (take-min (n - length old) bytes) ∙ sym (take-append-add old bytes (n - length old))
    ∙ ap (λ k. take k (old ++ bytes)) (omega (arith, fits))
