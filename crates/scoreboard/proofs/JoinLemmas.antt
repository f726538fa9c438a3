-- Lists put after one another, one at a time.
use Rattle.std.proofs.Common.{◌≡◌, ℕ, List, ◌++◌, append_assoc, ◌∙◌, Result, OnOk}
use Rattle.std.proofs.lemmas.Result.{on_ok_weaker}

-- eight lists, the last of which was put only where a call succeeded
pub joined_eight : {E : Type 0} (r : Result (Unit {0}) E) (p₀ p₁ p₂ p₃ p₄ p₅ p₆ p₇ p₈ l₁ l₂ l₃ l₄ l₅ l₆ l₇ l₈ : List ℕ) →
    p₁ ≡ p₀ ++ l₁ → p₂ ≡ p₁ ++ l₂ → p₃ ≡ p₂ ++ l₃ → p₄ ≡ p₃ ++ l₄ → p₅ ≡ p₄ ++ l₅ → p₆ ≡ p₅ ++ l₆ → p₇ ≡ p₆ ++ l₇ →
    OnOk r (p₈ ≡ p₇ ++ l₈) → OnOk r (p₈ ≡ p₀ ++ (l₁ ++ l₂ ++ l₃ ++ l₄ ++ l₅ ++ l₆ ++ l₇ ++ l₈))
joined_eight r p₀ p₁ p₂ p₃ p₄ p₅ p₆ p₇ p₈ l₁ l₂ l₃ l₄ l₅ l₆ l₇ l₈ e₁ e₂ e₃ e₄ e₅ e₆ e₇ last =
    on_ok_weaker r (λ e₈. e₈ ∙ rw (e₇, e₆, e₅, e₄, e₃, e₂, e₁) (simp append_assoc)) last
