use Rattle.std.proofs.Common.{◌≡◌, ℕ, zero, suc, ◌+◌, ◌<◌, ◌∷◌, replicate, refl, ap, ◌∙◌, arith}
use Rattle.std.specs.Prelude.{slice_index}
use Rattle.table_rule.specs.IdleWords.{bias}
use Rattle.table_rule.proofs.words.first_words.Goals as goal

-- each of so many words is the bias
biased : (n k : ℕ) → k < n → slice_index (replicate n bias) k ≡ bias
biased zero k lt = absurd (omega arith)
biased (suc n) zero lt = refl
biased (suc n) (suc k) lt = biased n k (omega arith)

pub returns : goal.returns
returns c = record {
  count = refl;
  turn = refl;
  passes = refl;
  idle = λ k lt. let further : k + 2 ≡ suc (suc k) = omega arith in ap (slice_index (0 ∷ 1 ∷ replicate 32 bias)) further ∙ biased 32 k lt;
}
