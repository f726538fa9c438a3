-- Trails: steps on words, in the order in which they were made.
use Rattle.std.specs.Prelude.{◌≡◌, ◌==◌, ◌<◌, ℕ, suc, List, [], ◌∷◌, ⊤, filter, not, nat_lt}
use Rattle.table_rule.specs.declared.trail.Step.{Step}

-- each step found what the one before it left, from this number on to that one
abbrev pub GoesOn : ℕ → List Step → ℕ → Type 0
GoesOn word [] last = word ≡ last
GoesOn word (step ∷ steps) last = (step.found ≡ word) × GoesOn step.leaves steps last

-- the steps are numbered from there on
abbrev pub AreNumbered : ℕ → List Step → Type 0
AreNumbered number [] = ⊤
AreNumbered number (step ∷ steps) = (step.at ≡ number) × AreNumbered (suc number) steps

-- each step was made by one of so many
abbrev pub AreOfMakers : ℕ → List Step → Type 0
AreOfMakers makers [] = ⊤
AreOfMakers makers (step ∷ steps) = (step.by < makers) × AreOfMakers makers steps

-- the steps that this one made
abbrev pub steps_by : ℕ → List Step → List Step
steps_by maker steps = filter (λ (step : Step). step.by == maker) steps

-- the steps on that word
abbrev pub steps_on : ℕ → List Step → List Step
steps_on word steps = filter (λ (step : Step). step.word == word) steps

-- the steps from that number on
abbrev pub steps_since : ℕ → List Step → List Step
steps_since number steps = filter (λ (step : Step). not (nat_lt step.at number)) steps
