-- Lists that are cut at the end of the longest front whose elements pass a test.
use Rattle.std.proofs.Common.{◌≡◌, ℕ, ◌<◌, inl, inr, Bool, true, List, [], ◌∷◌, ◌++◌, length, take, drop, refl, sym, subst, ◌∙◌, arith}
use Rattle.std.specs.List.{AllPass, prefix_len}
use Rattle.std.proofs.lemmas.Bool.{cases_lt, false≢true}
use Rattle.std.proofs.lemmas.List.{drop_more, drop_all, get_or-take, length-take}
use Rattle.std.proofs.lemmas.List.Elements.{All-head, All-tail}
use Rattle.std.proofs.lemmas.List.Sums.{prefix_len_passes, prefix_len_stops}
use Rattle.mpm_script.specs.LineWordsInside.{EndsRun}

-- a list is cut in one way at the end of the elements that pass
pub one_cut : (test : ℕ → Bool) (front other end also : List ℕ) → AllPass test front → AllPass test other → EndsRun test end → EndsRun test also
    → front ++ end ≡ other ++ also → (front ≡ other) × (end ≡ also)
one_cut test [] [] end also p q s t e = (refl, e)
one_cut test [] (b ∷ other) end also p q s t e =
    absurd (false≢true (sym (subst (EndsRun test) e s) ∙ All-head (λ c. test c ≡ true) b other q))
one_cut test (a ∷ front) [] end also p q s t e =
    absurd (false≢true (sym (subst (EndsRun test) (sym e) t) ∙ All-head (λ c. test c ≡ true) a front p))
one_cut test (a ∷ front) (b ∷ other) end also p q s t e =
    let first : a ≡ b = cc in
    let rest : front ++ end ≡ other ++ also = cc in
    let same = one_cut test front other end also (All-tail (λ c. test c ≡ true) a front p) (All-tail (λ c. test c ≡ true) b other q) s t rest in
    let fronts : front ≡ other = same.0 in
    (cc, same.1)

-- the longest front that passes does, and what follows it begins with no byte that does
run_passes : (test : ℕ → Bool) (xs : List ℕ) → AllPass test (take (prefix_len test xs) xs)
run_passes test xs k d l =
    let below : k < prefix_len test xs = omega (arith, length-take (prefix_len test xs) xs) in
    rw (get_or-take) (prefix_len_passes test xs k d below)

run_stops : (test : ℕ → Bool) (xs : List ℕ) → EndsRun test (drop (prefix_len test xs) xs)
run_stops test xs =
    elim (cases_lt (prefix_len test xs) (length xs)) [
      | inl l ↦ subst (EndsRun test) (sym (drop_more xs (prefix_len test xs) 0 l)) (prefix_len_stops test xs 0 l)
      | inr g ↦ subst (EndsRun test) (sym (drop_all (prefix_len test xs) xs g)) tt
    ]

-- a list, cut at the end of the longest front whose elements pass
pub record IsCut (test : ℕ → Bool) (xs front end : List ℕ) : Type 0 where
  pub whole : xs ≡ front ++ end
  pub passes : AllPass test front
  pub stops : EndsRun test end

pub cut_at : (test : ℕ → Bool) (xs : List ℕ) (n : ℕ) (front end : List ℕ) → n ≡ prefix_len test xs → front ≡ take n xs → end ≡ drop n xs
    → xs ≡ front ++ end → IsCut test xs front end
cut_at test xs n front end longest is_front is_end whole = record {
  whole = whole;
  passes = subst (AllPass test) (sym is_front) (rw longest (run_passes test xs));
  stops = subst (EndsRun test) (sym is_end) (rw longest (run_stops test xs));
}
