-- The values of the fields of a head (RFC 9110, sections 5.1 to 5.6), from the list of their names and values.
use Rattle.std.specs.Prelude.{ℕ, ◌-◌, Bool, List, [], ◌∷◌, map, length, get_or, if◌then◌else◌, ◌==◌, nat_lt, flat_map, Option, Some, None}
use Rattle.std.specs.List.{slice_split, filter, list_any}
use Rattle.std.specs.Str.{bytes_eq}
use Rattle.mpm_base.specs.LetterCase.{is_same_ignoring_case}
use Rattle.httparse.specs.Grammar.{trim_ows}

-- the values of all fields of that name, in order (RFC 9110, section 5.1)
abbrev pub values_named : List ℕ → List (List ℕ × List ℕ) → List (List ℕ)
values_named name fields = flat_map (λ field. if is_same_ignoring_case field.0 name then field.1 ∷ [] else []) fields

-- the words of a value: it is split at commas, each part is taken without spaces and tabs at both ends, and empty parts are left out (RFC 9110, section 5.6.1)
abbrev pub words_of : List ℕ → List (List ℕ)
words_of value = filter (λ word. nat_lt 0 (length word)) (map trim_ows (slice_split (λ b. b == 44) value))

-- the words of several values, in order
abbrev pub words_of_all : List (List ℕ) → List (List ℕ)
words_of_all values = flat_map words_of values

-- one of the words is this one, case ignored
abbrev pub has_word : List ℕ → List (List ℕ) → Bool
has_word word words = list_any (λ other. is_same_ignoring_case other word) words

-- the last of the words is this one, case ignored
abbrev pub ends_in_word : List ℕ → List (List ℕ) → Bool
ends_in_word word words = is_same_ignoring_case (get_or words (length words - 1) []) word

-- the value of the only field of a name; several have none
abbrev pub only_value : List (List ℕ) → Option (List ℕ)
only_value (value ∷ []) = Some value
only_value _ = None

-- the words of all fields of a name, where one stands
abbrev pub words_where_any : List (List ℕ) → Option (List (List ℕ))
words_where_any [] = None
words_where_any (value ∷ values) = Some (words_of_all (value ∷ values))

-- one of the words is exactly this one, byte for byte
abbrev pub has_exactly : List ℕ → List (List ℕ) → Bool
has_exactly word words = list_any (λ other. bytes_eq other word) words
