-- Where the first line of bytes ends.
use Rattle.std.proofs.Common.{◌≡◌, ℕ, ◌+◌, ◌<◌, true, false, List, [], ◌∷◌, ◌++◌, length, refl, sym, ap, subst, ◌∙◌, arith, ◌==◌}
use Rattle.std.specs.List.{AllPass}
use Rattle.std.proofs.lemmas.Bool.{eqb-true, not-false, false≢true}
use Rattle.std.proofs.lemmas.List.{append-nil, get_or-append-add, length-append}
use Rattle.mpm_script.specs.LineWordsInside.{EndsRun}
use Rattle.mpm_script.specs.Script.{is_line_byte, Begins}
use Rattle.mpm_script.proofs.CutLemmas.{one_cut}

-- the first byte that is none of a line is a line feed
pub line_end : (bytes : List ℕ) (b : ℕ) (rest : List ℕ) → bytes ≡ b ∷ rest → EndsRun is_line_byte bytes → b ≡ 10
line_end bytes b rest e stops =
    let fails : is_line_byte b ≡ false = subst (EndsRun is_line_byte) e stops in
    eqb-true b 10 (not-false (b == 10) fails)

-- bytes that have none begin with no line
pub no_line_end : (bytes text end : List ℕ) → bytes ≡ text ++ end → AllPass is_line_byte text → end ≡ []
    → (other rest : List ℕ) → ¬ Begins bytes other rest
no_line_end bytes text end e one_line none other rest h =
    let same : other ++ 10 ∷ rest ≡ text = sym h.whole ∙ e ∙ ap (λ xs. text ++ xs) none ∙ append-nil text in
    let all : AllPass is_line_byte (other ++ 10 ∷ rest) = subst (AllPass is_line_byte) (sym same) one_line in
    let within : length other + 0 < length (other ++ 10 ∷ rest) = omega (arith, length-append other (10 ∷ rest)) in
    false≢true (subst (λ b. is_line_byte b ≡ true) (get_or-append-add other (10 ∷ rest) 0 0) (all (length other + 0) 0 within))

-- bytes begin with one text
pub begins_once : (bytes text rest other behind : List ℕ) → Begins bytes text rest → Begins bytes other behind
    → (text ≡ other) × (rest ≡ behind)
begins_once bytes text rest other behind h k =
    let cut = one_cut is_line_byte text other (10 ∷ rest) (10 ∷ behind) h.one_line k.one_line refl refl (sym h.whole ∙ k.whole) in
    let ends : 10 ∷ rest ≡ 10 ∷ behind = cut.1 in
    (cut.0, cc)

-- what stands behind it is shorter
pub begins_shorter : (bytes text rest : List ℕ) → Begins bytes text rest → length rest < length bytes
begins_shorter bytes text rest h = omega (arith, ap length h.whole, length-append text (10 ∷ rest))
