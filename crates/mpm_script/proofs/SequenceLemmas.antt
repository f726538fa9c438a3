-- The lines that bytes begin with: one more, and that bytes have one sequence of them.
use Rattle.std.proofs.Common.{◌≡◌, ℕ, ◌<◌, ◌⊎◌, inl, inr, List, [], ◌∷◌, ◌++◌, length, refl, sym, ap, subst, ◌∙◌}
use Rattle.mpm_script.specs.ScriptLine.{IsLine}
use Rattle.mpm_script.specs.Script.{Begins, BeginsWithLine, AreLines}
use Rattle.mpm_base.specs.declared.script_line.ScriptLine.{ScriptLine}
use Rattle.mpm_script.proofs.FirstLineLemmas.{begins_once, begins_shorter}

-- a text is one line at most
abbrev pub OneLine : Type 0
OneLine = (text : List ℕ) (line other : ScriptLine) → IsLine text line → IsLine text other → line ≡ other

-- bytes begin with one line
pub line_once : OneLine → (bytes : List ℕ) (line : ScriptLine) (rest : List ℕ) (other : ScriptLine) (behind : List ℕ)
    → BeginsWithLine bytes line rest → BeginsWithLine bytes other behind → (line ≡ other) × (rest ≡ behind)
line_once one bytes line rest other behind h k =
    let same = begins_once bytes h.text rest k.text behind h.begins k.begins in
    (one k.text line other (subst (λ text. IsLine text line) same.0 h.is_line) k.is_line, same.1)

-- and with none where their first text is none
pub no_line_first : (bytes text rest : List ℕ) → Begins bytes text rest → ((line : ScriptLine) → ¬ IsLine text line)
    → (line : ScriptLine) (behind : List ℕ) → ¬ BeginsWithLine bytes line behind
no_line_first bytes text rest begins none line behind h =
    none line (subst (λ text. IsLine text line) (begins_once bytes h.text behind text rest h.begins begins).0 h.is_line)

-- there are more bytes then
pub line_some : (bytes : List ℕ) (line : ScriptLine) (rest : List ℕ) → BeginsWithLine bytes line rest → length rest < length bytes
line_some bytes line rest h = begins_shorter bytes h.text rest h.begins

-- one more line
pub lines_push : (bytes : List ℕ) (lines : List ScriptLine) (rest : List ℕ) (next : ScriptLine) (behind : List ℕ)
    → AreLines bytes lines rest → BeginsWithLine rest next behind → AreLines bytes (lines ++ next ∷ []) behind
lines_push bytes [] rest next behind h k = (behind, subst (λ xs. BeginsWithLine xs next behind) (sym h) k, refl)
lines_push bytes (line ∷ lines) rest next behind h k = (h.0, h.1, lines_push h.0 lines rest next behind h.2 k)

-- the second sequence goes on from the rest of the first
pub record GoesOn (lines : List ScriptLine) (rest : List ℕ) (others : List ScriptLine) (behind : List ℕ) : Type 0 where
  pub more : List ScriptLine
  pub whole : others ≡ lines ++ more
  pub are_lines : AreLines rest more behind

-- of two sequences of lines of the same bytes, one goes on from the rest of the other
pub two_sequences : OneLine → (bytes : List ℕ) (lines : List ScriptLine) (rest : List ℕ) (others : List ScriptLine) (behind : List ℕ)
    → AreLines bytes lines rest → AreLines bytes others behind → GoesOn lines rest others behind ⊎ GoesOn others behind lines rest
two_sequences one bytes [] rest others behind h k =
    inl (record { more = others; whole = refl; are_lines = subst (λ xs. AreLines xs others behind) h k })
two_sequences one bytes (line ∷ lines) rest [] behind h k =
    inr (record { more = line ∷ lines; whole = refl; are_lines = subst (λ xs. AreLines xs (line ∷ lines) rest) k h })
two_sequences one bytes (line ∷ lines) rest (other ∷ others) behind h k =
    let first = line_once one bytes line h.0 other k.0 h.1 k.1 in
    let same : line ≡ other = first.0 in
    elim (two_sequences one h.0 lines rest others behind h.2 (subst (λ xs. AreLines xs others behind) (sym first.1) k.2)) [
      | inl w ↦ inl (record { more = w.more; whole = ap (λ xs. other ∷ xs) w.whole ∙ ap (λ x. x ∷ (lines ++ w.more)) (sym same); are_lines = w.are_lines })
      | inr w ↦ inr (record { more = w.more; whole = ap (λ xs. line ∷ xs) w.whole ∙ ap (λ x. x ∷ (others ++ w.more)) same; are_lines = w.are_lines })
    ]
