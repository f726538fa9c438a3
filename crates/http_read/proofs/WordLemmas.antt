-- The words of a value, part by part.
use Rattle.std.proofs.Common.{◌≡◌, ◌≢◌, ℕ, zero, suc, ◌<◌, Bool, cond, List, [], ◌∷◌, ◌++◌, map, length, get_or, take, drop, ltb, refl, ap, ◌∙◌, arith}
use Rattle.std.specs.List.{onto_first, filter}
use Rattle.std.proofs.lemmas.Bool.{eq-eqb, ne_eqb, lt-ltb, le-ltb}
use Rattle.httparse.specs.Grammar.{trim_ows}
use Rattle.mpm_base.specs.LetterCase.{is_same_ignoring_case}
use Rattle.http_read.specs.FieldValues.{words_of}
use Rattle.http_read.specs.WordsInside.{parts_of, last_word_is}

-- the first part ends at the first comma
pub parts_at : (xs : List ℕ) (i : ℕ) → i < length xs → get_or xs i 0 ≡ 44 → ((k : ℕ) → k < i → get_or xs k 0 ≢ 44) → parts_of xs ≡ take i xs ∷ parts_of (drop (suc i) xs)
parts_at [] i inside comma before = absurd (omega arith)
parts_at (b ∷ bs) zero inside comma before =
    ap (λ t. cond t ([] ∷ parts_of bs) (onto_first b (parts_of bs))) (eq-eqb b 44 comma)
parts_at (b ∷ bs) (suc i) inside comma before =
    ap (λ t. cond t ([] ∷ parts_of bs) (onto_first b (parts_of bs))) (ne_eqb b 44 (before 0 (omega arith)))
    ∙ ap (onto_first b) (parts_at bs i (omega arith) comma (λ k below. before (suc k) (omega arith)))

pub parts_whole : (xs : List ℕ) → ((k : ℕ) → k < length xs → get_or xs k 0 ≢ 44) → parts_of xs ≡ xs ∷ []
parts_whole [] none = refl
parts_whole (b ∷ bs) none =
    ap (λ t. cond t ([] ∷ parts_of bs) (onto_first b (parts_of bs))) (ne_eqb b 44 (none 0 (omega arith)))
    ∙ ap (onto_first b) (parts_whole bs (λ k below. none (suc k) (omega arith)))

-- the words of parts
abbrev pub words_in : List (List ℕ) → List (List ℕ)
words_in parts = filter (λ word. ltb 0 (length word)) (map trim_ows parts)

-- a part that has a word, and one that has none
pub words_found : (value part : List ℕ) (parts : List (List ℕ)) → parts_of value ≡ part ∷ parts → 0 < length (trim_ows part) → words_of value ≡ trim_ows part ∷ words_in parts
words_found value part parts e some =
    ap words_in e ∙ ap (λ t. cond t (trim_ows part ∷ words_in parts) (words_in parts)) (lt-ltb 0 (length (trim_ows part)) some)

pub words_missing : (value part : List ℕ) (parts : List (List ℕ)) → parts_of value ≡ part ∷ parts → length (trim_ows part) ≡ 0 → words_of value ≡ words_in parts
words_missing value part parts e none =
    ap words_in e ∙ ap (λ t. cond t (trim_ows part ∷ words_in parts) (words_in parts)) (le-ltb 0 (length (trim_ows part)) (omega arith))

-- the flag of the last word, over further words
pub last_word-append : (word : List ℕ) (before : Bool) (words more : List (List ℕ)) → last_word_is word before (words ++ more) ≡ last_word_is word (last_word_is word before words) more
last_word-append word before [] more = refl
last_word-append word before (found ∷ words) more = last_word-append word (is_same_ignoring_case found word) words more

-- where no word is empty, the flag is that of the last one
pub last_word-last : (word found : List ℕ) (words : List (List ℕ)) (before : Bool) → last_word_is word before (found ∷ words) ≡ is_same_ignoring_case (get_or (found ∷ words) (length words) []) word
last_word-last word found [] before = refl
last_word-last word found (next ∷ words) before = last_word-last word next words (is_same_ignoring_case found word)
