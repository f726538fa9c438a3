-- The words of a script's lines: where a name ends.
use Rattle.std.proofs.Common.{◌≡◌, ℕ, List, ◌∷◌, ◌++◌, refl, sym, ap, ◌∙◌}
use Rattle.std.specs.Prelude.{codes}
use Rattle.std.proofs.lemmas.List.{append_cancel_left}
use Rattle.mpm_script.specs.ScriptLine.{is_name_byte, is_file_byte}
use Rattle.mpm_script.specs.LineWordsInside.{IsNamed, IsFiled}
use Rattle.mpm_script.proofs.CutLemmas.{IsCut, one_cut}

-- the name behind a word is where the text behind the word is cut at the end of its first name bytes
pub one_name : (word text name behind rest front end : List ℕ) → text ≡ word ++ rest → IsCut is_name_byte rest front end
    → IsNamed word text name behind → (name ≡ front) × (behind ≡ end)
one_name word text name behind rest front end e cut h =
    one_cut is_name_byte name front behind end h.is_name.bytes cut.passes h.stops cut.stops
    (append_cancel_left word (name ++ behind) (front ++ end) (sym h.whole ∙ e ∙ ap (λ xs. word ++ xs) cut.whole))

-- the same of a file's name, behind which a space stands
pub one_file : (text name behind rest front end : List ℕ) → text ≡ codes "file " ++ rest → IsCut is_file_byte rest front end
    → IsFiled text name behind → (name ≡ front) × (32 ∷ behind ≡ end)
one_file text name behind rest front end e cut h =
    one_cut is_file_byte name front (32 ∷ behind) end h.is_name.bytes cut.passes refl cut.stops
    (append_cancel_left (codes "file ") (name ++ 32 ∷ behind) (front ++ end) (sym h.whole ∙ e ∙ ap (λ xs. codes "file " ++ xs) cut.whole))
