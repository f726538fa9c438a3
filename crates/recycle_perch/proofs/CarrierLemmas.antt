-- Of what all marks of a place know: each carrier that was laid down rests, or was taken.
use Rattle.std.proofs.Common.{◌≡◌, inl, ⊎_elim, ℕ, suc, ◌+◌, ◌*◌, ◌<◌, ◌==◌, Bool, true, false, ◌&&◌, cond, nat_le, nat_lt, List, [], ◌∷◌, length, refl, sym, ap, ◌∙◌, arith}
use Rattle.std.proofs.lemmas.Bool.Decides.{nat_tests}
use Rattle.std.proofs.lemmas.List.Sums.{sum_by-cons}
use Rattle.std.specs.Prelude.{count_by}
use mathlib.Core.Option.{some}
use lib.ListN.{get_elem?}
use Rattle.table_rule.specs.declared.trail.Step.{Step}
use Rattle.table_rule.specs.Trails.{AreOfMakers, GoesOn, steps_by}
use Rattle.recycle_perch.specs.Words.{IsRestNumber, IsRestWord, LeaveRests, count_of, known_of, laid_one, took_one}

-- ## One step

-- the step did so
abbrev is_so : ℕ × ℕ → Step → Bool
is_so d step = step.found == d.0 && step.leaves == d.1

-- 1 where a step that found this number and left that one did so
abbrev hit : ℕ × ℕ → ℕ → ℕ → ℕ
hit d found leaves = cond (found == d.0 && leaves == d.1) 1 0

-- a count of one step more
count_cons : (test : Step → Bool) (step : Step) (steps : List Step) → count_by test (step ∷ steps) ≡ cond (test step) 1 0 + count_by test steps
count_cons test step steps = sum_by-cons (λ (s : Step). cond (test s) 1 0) step steps

count_more : (d : ℕ × ℕ) (step : Step) (steps : List Step) (found leaves : ℕ) → step.found ≡ found → step.leaves ≡ leaves
    → count_of d (step ∷ steps) ≡ hit d found leaves + count_of d steps
count_more d step steps found leaves f l =
    count_cons (is_so d) step steps ∙ ap (λ n. hit d n step.leaves + count_of d steps) f ∙ ap (λ n. hit d found n + count_of d steps) l

-- ## The trail

-- the steps from this number on laid as many down as they took, but for what rested before and rests then
counted : (n : ℕ) (steps : List Step) (word : ℕ) → IsRestNumber n → LeaveRests steps → GoesOn n steps word
    → n + 2 * count_of laid_one steps ≡ word + 2 * count_of took_one steps
counted n [] word is rests on = omega (arith, on)
counted n (step ∷ steps) word is rests on =
    let more = counted step.leaves steps word rests.0 rests.1 on.1 in
    let by : (f l : ℕ) → n ≡ f → step.leaves ≡ l → (count_of laid_one (step ∷ steps) ≡ hit laid_one f l + count_of laid_one steps)
    × (count_of took_one (step ∷ steps) ≡ hit took_one f l + count_of took_one steps) =
    λ f l e1 e2. (count_more laid_one step steps f l (on.0 ∙ e1) e2, count_more took_one step steps f l (on.0 ∙ e1) e2) in
    ⊎_elim
    (λ (n0 : n ≡ 0). ⊎_elim
    (λ (l0 : step.leaves ≡ 0). let b = by 0 0 n0 l0 in omega (arith, more, n0, l0, b.0, b.1))
    (λ (l2 : step.leaves ≡ 2). let b = by 0 2 n0 l2 in omega (arith, more, n0, l2, b.0, b.1)) rests.0)
    (λ (n2 : n ≡ 2). ⊎_elim
    (λ (l0 : step.leaves ≡ 0). let b = by 2 0 n2 l0 in omega (arith, more, n2, l0, b.0, b.1))
    (λ (l2 : step.leaves ≡ 2). let b = by 2 2 n2 l2 in omega (arith, more, n2, l2, b.0, b.1)) rests.0) is

-- ## The marks

-- how many steps did so that were made by one from this number on to before that one
abbrev between : ℕ × ℕ → ℕ → ℕ → List Step → ℕ
between d first last steps = count_by (λ (step : Step). is_so d step && nat_le first step.by && nat_lt step.by last) steps

-- none is made by nobody
none_by : (b : Bool) (first by : ℕ) → (b && nat_le first by && nat_lt by first) ≡ false
none_by true first by = grind (arith, nat_tests)
none_by false first by = refl

between_none : (d : ℕ × ℕ) (first : ℕ) (steps : List Step) → between d first first steps ≡ 0
between_none d first [] = refl
between_none d first (step ∷ steps) =
    count_cons (λ (s : Step). is_so d s && nat_le first s.by && nat_lt s.by first) step steps
    ∙ ap (λ b. cond b 1 0 + between d first first steps) (none_by (is_so d step) first step.by) ∙ no_more (between d first first steps) (between_none d first steps)
  where
    no_more : (n : ℕ) → n ≡ 0 → 0 + n ≡ 0
    no_more n is = omega (arith, is)

-- those of the first of them, and those of the others
one_more : (b : Bool) (first last by : ℕ) → first < last
    → cond (by == first) (cond b 1 0) 0 + cond (b && nat_le (suc first) by && nat_lt by last) 1 0 ≡ cond (b && nat_le first by && nat_lt by last) 1 0
one_more true first last by less = grind (arith, nat_tests, less)
one_more false first last by less = none_at (by == first)
  where
    none_at : (c : Bool) → cond c 0 0 + 0 ≡ 0
    none_at true = refl
    none_at false = refl

count_first : (d : ℕ × ℕ) (first : ℕ) (step : Step) (steps : List Step) (c : Bool) → (step.by == first) ≡ c
    → count_of d (steps_by first (step ∷ steps)) ≡ cond c (cond (is_so d step) 1 0) 0 + count_of d (steps_by first steps)
count_first d first step steps true is =
    ap (λ c. count_of d (cond c (step ∷ steps_by first steps) (steps_by first steps))) is ∙ count_cons (is_so d) step (steps_by first steps)
count_first d first step steps false is = ap (λ c. count_of d (cond c (step ∷ steps_by first steps) (steps_by first steps))) is ∙ zero_plus (count_of d (steps_by first steps))
  where
    zero_plus : (n : ℕ) → n ≡ 0 + n
    zero_plus n = omega arith

between_more : (d : ℕ × ℕ) (first last : ℕ) (steps : List Step) → first < last
    → count_of d (steps_by first steps) + between d (suc first) last steps ≡ between d first last steps
between_more d first last [] less = refl
between_more d first last (step ∷ steps) less =
    let more = between_more d first last steps less in
    let here = count_first d first step steps (step.by == first) refl in
    let one = one_more (is_so d step) first last step.by less in
    let there = count_cons (λ (s : Step). is_so d s && nat_le (suc first) s.by && nat_lt s.by last) step steps in
    let all = count_cons (λ (s : Step). is_so d s && nat_le first s.by && nat_lt s.by last) step steps in
    add (cond (step.by == first) (cond (is_so d step) 1 0) 0) _ _ _ _ _ _ _ _ here one more there all
  where
    add : (a b c m n k x y z : ℕ) → x ≡ a + m → a + b ≡ c → m + n ≡ k → y ≡ b + n → z ≡ c + k → x + y ≡ z
    add a b c m n k x y z h o r s u = omega (arith, h, o, r, s, u)

-- all of them
below_all : (b : Bool) (makers by : ℕ) → by < makers → (b && nat_le 0 by && nat_lt by makers) ≡ b
below_all true makers by below = grind (arith, nat_tests, below)
below_all false makers by below = refl

between_all : (d : ℕ × ℕ) (makers : ℕ) (steps : List Step) → AreOfMakers makers steps → between d 0 makers steps ≡ count_of d steps
between_all d makers [] of_makers = refl
between_all d makers (step ∷ steps) of_makers =
    count_cons (λ (s : Step). is_so d s && nat_le 0 s.by && nat_lt s.by makers) step steps
    ∙ ap (λ b. cond b 1 0 + between d 0 makers steps) (below_all (is_so d step) makers step.by of_makers.0)
    ∙ ap (λ n. cond (is_so d step) 1 0 + n) (between_all d makers steps of_makers.1) ∙ sym (count_cons (is_so d) step steps)

-- what these marks know, the first of which has this number
known_between : (d : ℕ × ℕ) (first : ℕ) (steps : List Step) (views : List (List Step))
    → ((i : ℕ) (view : List Step) → get_elem? views i ≡ some view → view ≡ steps_by (first + i) steps)
    → known_of d views ≡ between d first (first + length views) steps
known_between d first steps [] known =
    sym (ap (λ last. between d first last steps) (let z : first + 0 ≡ first = omega arith in z) ∙ between_none d first steps)
known_between d first steps (view ∷ views) known =
    let here : view ≡ steps_by first steps =
    known 0 view refl ∙ ap (λ m. steps_by m steps) (let z : first + 0 ≡ first = omega arith in z) in
    let others = known_between d (suc first) steps views
    (λ i v at. known (suc i) v at ∙ ap (λ m. steps_by m steps) (let z : first + suc i ≡ suc first + i = omega arith in z)) in
    let last : suc first + length views ≡ first + suc (length views) = omega arith in
    ap (λ v. count_of d v + known_of d views) here
    ∙ ap (λ n. count_of d (steps_by first steps) + n) (others ∙ ap (λ l. between d (suc first) l steps) last)
    ∙ between_more d first (first + suc (length views)) steps (let z : first < first + suc (length views) = omega arith in z)

-- all marks know each step of the trail
known_all : (d : ℕ × ℕ) (steps : List Step) (views : List (List Step)) → AreOfMakers (length views) steps
    → ((i : ℕ) (view : List Step) → get_elem? views i ≡ some view → view ≡ steps_by i steps) → known_of d views ≡ count_of d steps
known_all d steps views of_makers known =
    known_between d 0 steps views (λ i view at. known i view at ∙ ap (λ m. steps_by m steps) (let z : i ≡ 0 + i = omega arith in z))
    ∙ ap (λ last. between d 0 last steps) (let z : 0 + length views ≡ length views = omega arith in z)
    ∙ between_all d (length views) steps of_makers

-- ## Each carrier

pub rest_or_taken : (word : ℕ) (views : List (List Step)) → IsRestWord word views → 2 * known_of laid_one views ≡ word + 2 * known_of took_one views
rest_or_taken word views is =
    let laid = known_all laid_one is.trail views is.of_marks is.known in
    let took = known_all took_one is.trail views is.of_marks is.known in
    let all = counted 0 is.trail word (inl refl) is.rests is.goes_on in
    omega (arith, laid, took, all)
