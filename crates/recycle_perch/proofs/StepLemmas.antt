-- Each step keeps the rule of a place.
use Rattle.std.proofs.Common.{◌≡◌, ◌≢◌, ◌⊎◌, inl, inr, ⊎_elim, ℕ, zero, suc, ◌+◌, ◌<◌, ◌≤◌, ◌==◌, List, [], ◌∷◌, ◌++◌, length, set, refl, sym, ap, ◌∙◌, subst, arith, map}
use Rattle.std.proofs.lemmas.List.{length-set, map_push}
use mathlib.Core.Option.{some, some-ne-none, some-injective}
use lib.ListN.{get_elem?}
use prog.Atomic.{either}
use Rattle.atomic_table.proofs.Lists.{at_set}
use Rattle.atomic_table.specs.Marked.{Comes, Keeps}
use Rattle.table_rule.specs.declared.trail.Step.{Step}
use Rattle.recycle_perch.specs.StepsInside.{AddsStep, LaysDown, Takes}
use Rattle.recycle_perch.specs.Words.{deed}
use Rattle.recycle_perch.specs.Words.{IsRestNumber, IsRestWord, LeaveRests}
use Rattle.table_rule.specs.Trails.{AreNumbered, AreOfMakers, GoesOn, steps_by}

-- ## What is taken of trails

-- some laws of the rule, as they are handed on to lemmas
pub record TrailLaws : Type 0 where
  pub goes_on : (word : ℕ) (steps : List Step) (last : ℕ) (step : Step) → GoesOn word steps last → step.found ≡ last
      → GoesOn word (steps ++ step ∷ []) step.leaves
  pub numbered : (number : ℕ) (steps : List Step) (step : Step) → AreNumbered number steps → step.at ≡ number + length steps
      → AreNumbered number (steps ++ step ∷ [])
  pub of_makers : (before after : ℕ) (steps : List Step) (step : Step) → AreOfMakers before steps → before ≤ after → step.by < after
      → AreOfMakers after (steps ++ step ∷ [])
  pub own : (maker : ℕ) (steps : List Step) (step : Step) → step.by ≡ maker → steps_by maker (steps ++ step ∷ []) ≡ steps_by maker steps ++ step ∷ []
  pub other : (maker : ℕ) (steps : List Step) (step : Step) → step.by ≢ maker → steps_by maker (steps ++ step ∷ []) ≡ steps_by maker steps
  pub none : (maker : ℕ) (steps : List Step) → AreOfMakers maker steps → steps_by maker steps ≡ []

-- a step on the word of a place, with this mark
abbrev step_of : (at mark found left : ℕ) → Step
step_of at mark found left = record { word = 0; at = at; by = mark; found = found; leaves = left }

-- ## One step behind all others

-- the steps leave a number that the word may be
last_rests : (word : ℕ) (steps : List Step) (last : ℕ) → IsRestNumber word → LeaveRests steps → GoesOn word steps last → IsRestNumber last
last_rests word [] last rests leave on = subst IsRestNumber on rests
last_rests word (step ∷ steps) last rests leave on = last_rests step.leaves steps last leave.0 leave.1 on.1

leave_more : (steps : List Step) (step : Step) → LeaveRests steps → IsRestNumber step.leaves → LeaveRests (steps ++ step ∷ [])
leave_more [] step leave rests = (rests, tt)
leave_more (s ∷ steps) step leave rests = (leave.0, leave_more steps step leave.1 rests)

-- ## The views of all marks

has_within : {A : Type 0} (l : List A) (i : ℕ) (a : A) → get_elem? l i ≡ some a → i < length l
has_within [] i a e = absurd (some-ne-none a (sym e))
has_within (x ∷ xs) zero a e = omega arith
has_within (x ∷ xs) (suc i) a e = let rest = has_within xs i a e in omega arith

has_more : {A : Type 0} (l : List A) (a b : A) (j : ℕ) → get_elem? (l ++ a ∷ []) j ≡ some b
    → ((j ≢ length l) × (get_elem? l j ≡ some b)) ⊎ ((j ≡ length l) × (a ≡ b))
has_more [] a b zero e = inr (refl, some-injective a b e)
has_more [] a b (suc j) e = absurd (some-ne-none b (sym e))
has_more (x ∷ xs) a b zero e = inl ((λ h. omega arith), e)
has_more (x ∷ xs) a b (suc j) e =
    ⊎_elim (λ t. let n = t.0 in inl ((λ h. n (omega arith)), t.1)) (λ t. inr (ap suc t.0, t.1)) (has_more xs a b j e)

long_more : {A : Type 0} (l : List A) (a : A) → length (l ++ a ∷ []) ≡ suc (length l)
long_more [] a = refl
long_more (x ∷ xs) a = ap suc (long_more xs a)

-- ## Steps with marks

-- what a step tells
adds : (found left : ℕ) (before : List Step) (step : Step) → step.found ≡ found → step.leaves ≡ left → IsRestNumber found
    → AddsStep found left before (before ++ step ∷ [])
adds found left before step is leaves rests =
    let same : deed step ≡ (found, left) = λ i. (is i, leaves i) in
    (map_push deed before step ∙ ap (λ d. map deed before ++ d ∷ []) same, rests)

-- a step with a mark
one_step : TrailLaws → (found left mark : ℕ) (view : List Step) (views : List (List Step)) → IsRestWord found views → get_elem? views mark ≡ some view
    → IsRestNumber left → (w : List Step) × IsRestWord left (set views mark w) × AddsStep found left view w
one_step trails found left mark view views rule at rests =
    let step = step_of (length rule.trail) mark found left in
    let w = view ++ step ∷ [] in
    let long = length-set views mark w in
    let within = has_within views mark view at in
    let le : length views ≤ length (set views mark w) = omega (arith, long) in
    let below : mark < length (set views mark w) = omega (arith, long, within) in
    let next : length rule.trail ≡ 0 + length rule.trail = omega arith in (
      w,
      record {
        trail = rule.trail ++ step ∷ [];
        goes_on = trails.goes_on 0 rule.trail found step rule.goes_on refl;
        rests = leave_more rule.trail step rule.rests rests;
        numbered = trails.numbered 0 rule.trail step rule.numbered next;
        of_marks = trails.of_makers (length views) (length (set views mark w)) rule.trail step rule.of_marks le below;
        known = λ j u e. ⊎_elim
            (λ (z : (j ≡ mark) × (w ≡ u)).
            sym z.1 ∙ (ap (λ l. l ++ step ∷ []) (rule.known mark view at)
            ∙ (sym (trails.own mark rule.trail step refl) ∙ ap (λ k. steps_by k (rule.trail ++ step ∷ [])) (sym z.0))))
            (λ (z : (j ≢ mark) × (get_elem? views j ≡ some u)).
            rule.known j u z.1 ∙ sym (trails.other j rule.trail step (λ (same : mark ≡ j). z.0 (sym same))))
            (at_set views mark j w u e);
      },
      adds found left view step refl refl (last_rests 0 rule.trail found (inl refl) rule.rests rule.goes_on),
    )

-- a step that takes what rests there
pub takes : TrailLaws → (mark : ℕ) (view : List Step) → Keeps IsRestWord mark view (λ _. 0) (Takes 0 0 view)
takes trails mark view found views rule at small = one_step trails found 0 mark view views rule at (inl refl)

left_rests : (found : ℕ) → IsRestNumber found → IsRestNumber (either (found == 0) 2 found)
left_rests found (inl none) = subst (λ n. IsRestNumber (either (n == 0) 2 n)) (sym none) (inr refl)
left_rests found (inr one) = subst (λ n. IsRestNumber (either (n == 0) 2 n)) (sym one) (inr refl)

-- a step that lays a carrier down
pub gives : TrailLaws → (mark : ℕ) (view : List Step) → Keeps IsRestWord mark view (λ n. either (n == 0) 2 n) (LaysDown 0 2 view)
gives trails mark view found views rule at small =
    one_step trails found (either (found == 0) 2 found) mark view views rule at
    (left_rests found (last_rests 0 rule.trail found (inl refl) rule.rests rule.goes_on))

-- a step with a new mark
pub comes : TrailLaws → Comes IsRestWord 0 (Takes 0 0 [])
comes trails found views rule small =
    let mark = length views in
    let step = step_of (length rule.trail) mark found 0 in
    let w = step ∷ [] in
    let long = long_more views w in
    let le : length views ≤ length (views ++ w ∷ []) = omega (arith, long) in
    let below : length views < length (views ++ w ∷ []) = omega (arith, long) in
    let next : length rule.trail ≡ 0 + length rule.trail = omega arith in (
      w,
      record {
        trail = rule.trail ++ step ∷ [];
        goes_on = trails.goes_on 0 rule.trail found step rule.goes_on refl;
        rests = leave_more rule.trail step rule.rests (inl refl);
        numbered = trails.numbered 0 rule.trail step rule.numbered next;
        of_marks = trails.of_makers mark (length (views ++ w ∷ [])) rule.trail step rule.of_marks le below;
        known = λ j u e. ⊎_elim
            (λ (z : (j ≢ mark) × (get_elem? views j ≡ some u)).
            rule.known j u z.1 ∙ sym (trails.other j rule.trail step (λ (same : mark ≡ j). z.0 (sym same))))
            (λ (z : (j ≡ mark) × (w ≡ u)).
            sym z.1 ∙ (ap (λ l. l ++ step ∷ []) (sym (trails.none mark rule.trail rule.of_marks))
            ∙ (sym (trails.own mark rule.trail step refl) ∙ ap (λ k. steps_by k (rule.trail ++ step ∷ [])) (sym z.0))))
            (has_more views w u j e);
      },
      adds found 0 [] step refl refl (last_rests 0 rule.trail found (inl refl) rule.rests rule.goes_on),
    )

-- no step was made yet
pub begins : IsRestWord 0 ([] ∷ [])
begins = record { trail = []; goes_on = refl; rests = tt; numbered = tt; of_marks = tt; known = one }
  where
    one : (mark : ℕ) (view : List Step) → get_elem? ([] ∷ []) mark ≡ some view → view ≡ []
    one zero view e = sym (some-injective _ _ e)
    one (suc mark) view e = absurd (some-ne-none view (sym e))
