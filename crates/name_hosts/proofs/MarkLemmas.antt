-- Names that are the same but for the case of letters have one mark.
use Rattle.std.proofs.Common.{◌≡◌, ◌≢◌, ℕ, Bool, true, false, List, length, take, map, get_or, sym, ap, ◌∙◌, ◌<◌, refl}
use Rattle.std.specs.Char.{to_ascii_lowercase}
use Rattle.std.specs.Prelude.{fold}
use Rattle.std.proofs.lemmas.List.{get_or-map, take-map}
use Rattle.std.proofs.lemmas.List.Folds.{fold-map}
use Rattle.std.proofs.lemmas.Slice.Eq.{bytes_eq-Decides}
use Rattle.mpm_base.specs.LetterCase.{is_same_ignoring_case}
use Rattle.name_hosts.specs.MarkInside.{mark, mark_of_bytes, mark_with, most_marked}

same_front : (n : ℕ) (a b : List ℕ) → map to_ascii_lowercase a ≡ map to_ascii_lowercase b → map to_ascii_lowercase (take n a) ≡ map to_ascii_lowercase (take n b)
same_front n a b e = sym (take-map to_ascii_lowercase n a) ∙ ap (take n) e ∙ take-map to_ascii_lowercase n b

same_bytes : (a b : List ℕ) → map to_ascii_lowercase a ≡ map to_ascii_lowercase b → mark_of_bytes a ≡ mark_of_bytes b
same_bytes a b e = sym (fold-map mark_with to_ascii_lowercase 0 a) ∙ ap (fold mark_with 0) e ∙ fold-map mark_with to_ascii_lowercase 0 b

pub same_mark : (a b : List ℕ) → is_same_ignoring_case a b ≡ true → mark a ≡ mark b
same_mark a b e =
    let same : map to_ascii_lowercase a ≡ map to_ascii_lowercase b = (bytes_eq-Decides (map to_ascii_lowercase a) (map to_ascii_lowercase b)).0 e in
    same_bytes (take most_marked a) (take most_marked b) (same_front most_marked a b same)

-- names of other marks aren't the same
pub other_mark : (a b : List ℕ) → mark a ≢ mark b → is_same_ignoring_case a b ≡ false
other_mark a b ne = by_answer (is_same_ignoring_case a b) refl where
  by_answer : (r : Bool) → is_same_ignoring_case a b ≡ r → r ≡ false
  by_answer true e = absurd (ne (same_mark a b e))
  by_answer false e = refl

-- the mark at a place is that of the name there
pub mark_at : (names : List (List ℕ)) (marks : List ℕ) (place d : ℕ) (e : List ℕ) → marks ≡ map mark names → place < length names
    → get_or marks place d ≡ mark (get_or names place e)
mark_at names marks place d e are within = ap (λ (l : List ℕ). get_or l place d) are ∙ get_or-map mark names place e d within
