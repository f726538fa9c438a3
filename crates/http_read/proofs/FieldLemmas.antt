-- The values and the words of the fields of one name, field by field.
use Rattle.std.proofs.Common.{◌≡◌, ℕ, ◌-◌, ◌<◌, Bool, true, false, cond, ◌||◌, List, [], ◌∷◌, ◌++◌, length, get_or, map, refl, sym, ap, ◌∙◌, subst, arith}
use Rattle.std.specs.Char.{to_ascii_lowercase}
use Rattle.std.specs.Str.{bytes_eq}
use Rattle.std.proofs.lemmas.List.{append-nil, length-map, map_push}
use Rattle.std.proofs.lemmas.List.Elements.{All-push}
use Rattle.std.proofs.lemmas.List.Folds.{list_any-append}
use Rattle.std.proofs.lemmas.Grind.{flat_map-append}
use Rattle.std.proofs.lemmas.Slice.Eq.{bytes_eq-Decides}
use Rattle.httparse.specs.declared.spans.Span.{Span}
use Rattle.httparse.specs.Spans.{span_bytes, IsWithin}
use Rattle.mpm_base.specs.LetterCase.{is_same_ignoring_case}
use Rattle.http_read.specs.declared.request_fields.Values.{Values}
use Rattle.http_read.specs.declared.request_fields.Values.TheVariants as values
use Rattle.http_read.specs.FieldValues.{values_named, words_of, words_of_all, has_exactly, has_word, ends_in_word}
use Rattle.http_read.specs.ValuesInside.{AreValues, AreValuesAt}
use Rattle.http_read.specs.WordsInside.{last_word_is}
use Rattle.http_read.proofs.WordLemmas.{last_word-append, last_word-last}

values_push : (name : List ℕ) (fields : List (List ℕ × List ℕ)) (f : List ℕ × List ℕ) → values_named name (fields ++ f ∷ []) ≡ values_named name fields ++ cond (is_same_ignoring_case f.0 name) (f.1 ∷ []) []
values_push name fields f =
    flat_map-append (λ x. cond (is_same_ignoring_case x.0 name) (x.1 ∷ []) []) fields (f ∷ [])
    ∙ ap (λ l. values_named name fields ++ l) (append-nil (cond (is_same_ignoring_case f.0 name) (f.1 ∷ []) []))

pub values_more : (name : List ℕ) (fields : List (List ℕ × List ℕ)) (f : List ℕ × List ℕ) → is_same_ignoring_case f.0 name ≡ true → values_named name (fields ++ f ∷ []) ≡ values_named name fields ++ f.1 ∷ []
values_more name fields f e = values_push name fields f ∙ ap (λ l. values_named name fields ++ l) (ap (λ t. cond t (f.1 ∷ []) []) e)

pub values_other : (name : List ℕ) (fields : List (List ℕ × List ℕ)) (f : List ℕ × List ℕ) → is_same_ignoring_case f.0 name ≡ false → values_named name (fields ++ f ∷ []) ≡ values_named name fields
values_other name fields f e =
    values_push name fields f
    ∙ ap (λ l. values_named name fields ++ l) (ap (λ t. cond t (f.1 ∷ []) []) e)
    ∙ append-nil (values_named name fields)

words_push : (vs : List (List ℕ)) (v : List ℕ) → words_of_all (vs ++ v ∷ []) ≡ words_of_all vs ++ words_of v
words_push vs v = flat_map-append words_of vs (v ∷ []) ∙ ap (λ l. words_of_all vs ++ l) (append-nil (words_of v))

pub words_more : (name : List ℕ) (fields : List (List ℕ × List ℕ)) (f : List ℕ × List ℕ) → is_same_ignoring_case f.0 name ≡ true → words_of_all (values_named name (fields ++ f ∷ [])) ≡ words_of_all (values_named name fields) ++ words_of f.1
words_more name fields f e = ap words_of_all (values_more name fields f e) ∙ words_push (values_named name fields) f.1

pub has_word_more : (name word : List ℕ) (fields : List (List ℕ × List ℕ)) (f : List ℕ × List ℕ) → is_same_ignoring_case f.0 name ≡ true → has_word word (words_of_all (values_named name (fields ++ f ∷ []))) ≡ (has_word word (words_of_all (values_named name fields)) || has_word word (words_of f.1))
has_word_more name word fields f e =
    ap (has_word word) (words_more name fields f e)
    ∙ list_any-append (λ other. is_same_ignoring_case other word) (words_of_all (values_named name fields)) (words_of f.1)

pub last_word_more : (name word : List ℕ) (fields : List (List ℕ × List ℕ)) (f : List ℕ × List ℕ) (last : Bool) → is_same_ignoring_case f.0 name ≡ true → last ≡ last_word_is word false (words_of_all (values_named name fields)) → last_word_is word last (words_of f.1) ≡ last_word_is word false (words_of_all (values_named name (fields ++ f ∷ [])))
last_word_more name word fields f last e is =
    ap (λ t. last_word_is word t (words_of f.1)) is
    ∙ sym (last_word-append word false (words_of_all (values_named name fields)) (words_of f.1))
    ∙ ap (last_word_is word false) (sym (words_more name fields f e))

-- the flag of the last word says whether the words end in it
pub last_word_of_all : (word : List ℕ) (words : List (List ℕ)) → 0 < length word → last_word_is word false words ≡ ends_in_word word words
last_word_of_all [] words some = absurd (omega (arith, some))
last_word_of_all (b ∷ bs) [] some = refl
last_word_of_all (b ∷ bs) (found ∷ words) some =
    let place : length words ≡ length (found ∷ words) - 1 = omega arith in
    last_word-last (b ∷ bs) found words false ∙ ap (λ n. is_same_ignoring_case (get_or (found ∷ words) n []) (b ∷ bs)) place

pub value_added : (head : List ℕ) (vs : List (List ℕ)) (span : Span) → AreValues head vs values.Absent → IsWithin (length head) span → AreValues head (vs ++ span_bytes head span ∷ []) (values.One span)
value_added head vs span none within = (ap (λ l. l ++ span_bytes head span ∷ []) none, within)

-- texts of different lengths are not the same, case ignored
other_length : (text name : List ℕ) (same : Bool) → is_same_ignoring_case text name ≡ same → ¬ (length text ≡ length name) → same ≡ false
other_length text name false is other = refl
other_length text name true is other =
    absurd (other (sym (length-map text to_ascii_lowercase) ∙ ap length ((bytes_eq-Decides _ _).0 is) ∙ length-map name to_ascii_lowercase))

-- a field whose name has another length adds no value
pub stays_as : (head name : List ℕ) (fields : List (List ℕ × List ℕ)) (f : List ℕ × List ℕ) (v : Values) (n m : ℕ)
    → length f.0 ≡ n → length name ≡ m → ¬ (n ≡ m) → AreValues head (values_named name fields) v → AreValues head (values_named name (fields ++ f ∷ [])) v
stays_as head name fields f v n m long named other are =
    subst (λ vs. AreValues head vs v)
    (sym (values_other name fields f (other_length f.0 name (is_same_ignoring_case f.0 name) refl (λ e. other (sym long ∙ e ∙ named))))) are

-- a field of the name adds its value to those that stand at the spans
pub values_at_more : (head name : List ℕ) (fields : List (List ℕ × List ℕ)) (f : List ℕ × List ℕ) (spans : List Span) (span : Span)
    → is_same_ignoring_case f.0 name ≡ true → f.1 ≡ span_bytes head span → IsWithin (length head) span
    → AreValuesAt head (values_named name fields) spans → AreValuesAt head (values_named name (fields ++ f ∷ [])) (spans ++ span ∷ [])
values_at_more head name fields f spans span same is within at = record {
  are =
      values_more name fields f same
      ∙ ap (λ values. values ++ f.1 ∷ []) at.are
      ∙ ap (λ value. map (span_bytes head) spans ++ value ∷ []) is
      ∙ sym (map_push (span_bytes head) spans span);
  within = All-push (IsWithin (length head)) spans span at.within within;
}

-- a value more has its words behind the others
pub exactly_push : (word : List ℕ) (values : List (List ℕ)) (value : List ℕ)
    → has_exactly word (words_of_all (values ++ value ∷ [])) ≡ (has_exactly word (words_of_all values) || has_exactly word (words_of value))
exactly_push word values value =
    ap (has_exactly word) (words_push values value)
    ∙ list_any-append (λ other. bytes_eq other word) (words_of_all values) (words_of value)
