-- One step more on a trail.
use Rattle.std.proofs.Common.{◌≡◌, ◌≢◌, ℕ, suc, ◌+◌, ◌/◌, ◌<◌, ◌≤◌, ◌==◌, Bool, true, false, cond, not, nat_lt, List, [], ◌∷◌, ◌++◌, length, filter, refl, sym, ap, subst, ◌∙◌, append-nil, arith, eq-eqb, ne_eqb}
use Rattle.std.proofs.lemmas.Bool.{lt-ltb, le-ltb}
use Rattle.std.proofs.lemmas.List.Elements.{filter-append}
use Rattle.table_rule.specs.declared.trail.Step.{Step}
use Rattle.table_rule.specs.Pasts.{LookInOrder}
use Rattle.table_rule.specs.Trails.{AreNumbered, AreOfMakers, GoesOn, steps_by, steps_on, steps_since}

-- a step of these numbers
abbrev pub step_of : ℕ → ℕ → ℕ → ℕ → ℕ → Step
step_of word at by found leaves = record { word = word; at = at; by = by; found = found; leaves = leaves }

-- ## The rule of a trail

pub goes_on_more : (word : ℕ) (steps : List Step) (last : ℕ) (step : Step) → GoesOn word steps last → step.found ≡ last
    → GoesOn word (steps ++ step ∷ []) step.leaves
goes_on_more word [] last step on found = (found ∙ sym on, refl)
goes_on_more word (s ∷ steps) last step on found = (on.0, goes_on_more s.leaves steps last step on.1 found)

pub numbered_more : (number : ℕ) (steps : List Step) (step : Step) → AreNumbered number steps → step.at ≡ number + length steps
    → AreNumbered number (steps ++ step ∷ [])
numbered_more number [] step numbered at = (omega (arith, at), tt)
numbered_more number (s ∷ steps) step numbered at = (numbered.0, numbered_more (suc number) steps step numbered.1 (omega (arith, at)))

-- where there are as many makers or more
pub of_more_makers : (before after : ℕ) (steps : List Step) → before ≤ after → AreOfMakers before steps → AreOfMakers after steps
of_more_makers before after [] le of_makers = tt
of_more_makers before after (s ∷ steps) le of_makers =
    let first = of_makers.0 in (omega arith, of_more_makers before after steps le of_makers.1)

pub of_makers_more : (makers : ℕ) (steps : List Step) (step : Step) → AreOfMakers makers steps → step.by < makers
    → AreOfMakers makers (steps ++ step ∷ [])
of_makers_more makers [] step of_makers below = (below, tt)
of_makers_more makers (s ∷ steps) step of_makers below = (of_makers.0, of_makers_more makers steps step of_makers.1 below)

-- ## Looks at the turn word

-- the history may have become longer
pub look_longer : (least : ℕ) (steps : List Step) (most longer : ℕ) → most ≤ longer → LookInOrder least steps most → LookInOrder least steps longer
look_longer least [] most longer le look = omega arith
look_longer least (s ∷ steps) most longer le look = (look.0, look_longer (s.found / 2) steps most longer le look.1)

-- one look more, which found the present length
pub look_more : (least : ℕ) (steps : List Step) (step : Step) (most : ℕ) → LookInOrder least steps most → step.found / 2 ≡ most
    → LookInOrder least (steps ++ step ∷ []) most
look_more least [] step most look is =
    (subst (λ n. least ≤ n) (sym is) look, subst (λ n. step.found / 2 ≤ n) is (let z : step.found / 2 ≤ step.found / 2 = omega arith in z))
look_more least (s ∷ steps) step most look is = (look.0, look_more (s.found / 2) steps step most look.1 is)

-- ## Some of the steps

-- the steps that pass a test, with one more
more_by : (test : Step → Bool) (b : Bool) (steps : List Step) (step : Step) → test step ≡ b
    → filter test (steps ++ step ∷ []) ≡ filter test steps ++ cond b (step ∷ []) []
more_by test b steps step is = filter-append test steps (step ∷ []) ∙ ap (λ t. filter test steps ++ cond t (step ∷ []) []) is

-- one more that passes
more_in : (test : Step → Bool) (steps : List Step) (step : Step) → test step ≡ true → filter test (steps ++ step ∷ []) ≡ filter test steps ++ step ∷ []
more_in test steps step is = more_by test true steps step is

-- one more that doesn't
more_out : (test : Step → Bool) (steps : List Step) (step : Step) → test step ≡ false → filter test (steps ++ step ∷ []) ≡ filter test steps
more_out test steps step is = more_by test false steps step is ∙ append-nil (filter test steps)

-- one more by this one
pub by_it : (maker : ℕ) (steps : List Step) (step : Step) → step.by ≡ maker → steps_by maker (steps ++ step ∷ []) ≡ steps_by maker steps ++ step ∷ []
by_it maker steps step its = more_in (λ (s : Step). s.by == maker) steps step (eq-eqb step.by maker its)

-- one more by another one
pub by_other : (maker : ℕ) (steps : List Step) (step : Step) → step.by ≢ maker → steps_by maker (steps ++ step ∷ []) ≡ steps_by maker steps
by_other maker steps step other = more_out (λ (s : Step). s.by == maker) steps step (ne_eqb step.by maker other)

-- one that isn't there made none
pub by_none : (maker : ℕ) (steps : List Step) → AreOfMakers maker steps → steps_by maker steps ≡ []
by_none maker [] of_makers = refl
by_none maker (s ∷ steps) of_makers =
    let below = of_makers.0 in
    ap (λ t. cond t (s ∷ steps_by maker steps) (steps_by maker steps)) (ne_eqb s.by maker (λ e. omega (arith, e, below)))
    ∙ by_none maker steps of_makers.1

-- one more on this word
pub on_it : (word : ℕ) (steps : List Step) (step : Step) → step.word ≡ word → steps_on word (steps ++ step ∷ []) ≡ steps_on word steps ++ step ∷ []
on_it word steps step its = more_in (λ (s : Step). s.word == word) steps step (eq-eqb step.word word its)

-- one more on another word
pub on_other : (word : ℕ) (steps : List Step) (step : Step) → step.word ≢ word → steps_on word (steps ++ step ∷ []) ≡ steps_on word steps
on_other word steps step other = more_out (λ (s : Step). s.word == word) steps step (ne_eqb step.word word other)

-- one more since then
pub since_it : (number : ℕ) (steps : List Step) (step : Step) → number ≤ step.at → steps_since number (steps ++ step ∷ []) ≡ steps_since number steps ++ step ∷ []
since_it number steps step le = more_in (λ (s : Step). not (nat_lt s.at number)) steps step (ap not (le-ltb step.at number le))

-- behind all there are none
pub since_none : (first number maker : ℕ) (steps : List Step) → AreNumbered first steps → first + length steps ≤ number
    → steps_since number (steps_by maker steps) ≡ []
since_none first number maker [] numbered le = refl
since_none first number maker (s ∷ steps) numbered le =
    let is = numbered.0 in
    let old : nat_lt s.at number ≡ true = lt-ltb s.at number (omega (arith, is, le)) in
    let rest = since_none (suc first) number maker steps numbered.1 (omega (arith, le)) in by (s.by == maker) old rest
  where
    by : (b : Bool) → nat_lt s.at number ≡ true → steps_since number (steps_by maker steps) ≡ []
        → steps_since number (cond b (s ∷ steps_by maker steps) (steps_by maker steps)) ≡ []
    by true old rest = ap (λ t. cond (not t) (s ∷ steps_since number (steps_by maker steps)) (steps_since number (steps_by maker steps))) old ∙ rest
    by false old rest = rest
