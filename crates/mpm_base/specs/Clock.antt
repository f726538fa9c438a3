-- A clock: the moments that it was told, and what it answered.
-- Why it is so stands in docs/DECISIONS.md: 5, What a front tells of its waits.
use Rattle.std.specs.Prelude.{◌≡◌, ℕ, List, [], ◌∷◌, ◌++◌, fold, map, max, Option, option_map}

-- the moment that a call of the clock was told
abbrev pub asked_at : ℕ × ℕ → ℕ
asked_at call = call.0

-- told that moment the clock answered this: where it tells its calls, they are those before and this one
abbrev pub Answers : Option (List (ℕ × ℕ)) → Option (List (ℕ × ℕ)) → ℕ → ℕ → Type 0
Answers told told' at answer = told' ≡ option_map (λ calls. calls ++ (at, answer) ∷ []) told

-- the clock was told this moment, and answered it
abbrev pub echo : ℕ → ℕ × ℕ
echo moment = (moment, moment)

-- each call was answered with what it was told
abbrev pub AreEchoes : List (ℕ × ℕ) → Type 0
AreEchoes calls = calls ≡ map echo (map asked_at calls)

-- the greatest of the answers, 0 where there is none
abbrev pub greatest_answer : List (ℕ × ℕ) → ℕ
greatest_answer calls = fold (λ greatest call. max greatest call.1) 0 calls
