-- What the words of the directives of types spell.
use Rattle.std.specs.Prelude.{ℕ, ◌==◌, ◌&&◌, ◌||◌, nat_le, nat_lt, if◌then◌else◌, Bool, true, false, List, [], ◌∷◌, length, take, drop, map, codes, Option, Some, None, slice_index}
use Rattle.std.specs.Char.{is_ascii_alphanumeric, to_ascii_lowercase}
use Rattle.std.specs.List.{list_all, list_any}
use Rattle.std.specs.Str.{bytes_eq}
use Rattle.media_types.specs.declared.types.TypePair.{TypePair}
use Rattle.mpm_base.specs.LetterCase.{is_same_ignoring_case}
use Rattle.conf_text.specs.Parts.{Parts, parts_around}
use Rattle.conf_text.specs.Words.{Word, Closed, Unclosed}

-- ## Values of one word

-- whether the long table counts: Long or Short, in which case of letters doesn't count
abbrev pub table_of_value : List ℕ → Option Bool
table_of_value v =
    if is_same_ignoring_case v (codes "Long") then Some true
    else (if is_same_ignoring_case v (codes "Short") then Some false else None)

-- a byte of a token (RFC 9110, section 5.6.2): a letter, a digit, or one of ! # $ % & ' * + - . ^ _ ` | ~
abbrev pub is_token_byte : ℕ → Bool
is_token_byte b = is_ascii_alphanumeric b || list_any (λ other. other == b) (codes "!#$%&'*+-.^_`|~")

-- a token: one byte or more
abbrev pub is_token : List ℕ → Bool
is_token v = nat_lt 0 (length v) && list_all is_token_byte v

-- whether a character set is named: a token of 1 to 40 bytes names it, and Off, in which case of letters doesn't count, names none
abbrev pub charset_of_value : List ℕ → Option Bool
charset_of_value v =
    if is_same_ignoring_case v (codes "Off") then Some false
    else (if is_token v && nat_le (length v) 40 then Some true else None)

-- ## Types and extensions

-- two tokens with a slash (47) between them (RFC 9110, section 8.3.1)
abbrev pub are_two_tokens : Option Parts → Bool
are_two_tokens None = false
are_two_tokens (Some p) = is_token p.before && is_token p.after

-- the text without the spaces (32) at its front
abbrev pub without_spaces : List ℕ → List ℕ
without_spaces [] = []
without_spaces (b ∷ bs) = if b == 32 then without_spaces bs else b ∷ bs

-- a parameter that names a character set: `charset=` and a token
abbrev pub is_charset_parameter : List ℕ → Bool
is_charset_parameter v = bytes_eq (take 8 v) (codes "charset=") && is_token (drop 8 v)

-- a type, or a type, a semicolon, spaces or none, and such a parameter
abbrev pub is_type_text : List ℕ → Option Parts → Bool
is_type_text v None = are_two_tokens (parts_around 47 v)
is_type_text v (Some p) = are_two_tokens (parts_around 47 p.before) && is_charset_parameter (without_spaces p.after)

-- a type of 3 to 127 bytes; what stands behind its first semicolon (59) is the parameter
abbrev pub is_media_type : List ℕ → Bool
is_media_type v = nat_le 3 (length v) && nat_le (length v) 127 && is_type_text v (parts_around 59 v)

-- a byte of an extension: a letter, a digit, or one of + (43) - (45) _ (95)
abbrev pub is_extension_byte : ℕ → Bool
is_extension_byte b = is_ascii_alphanumeric b || b == 43 || b == 45 || b == 95

-- a word without one point (46) at its front
abbrev pub without_first_point : List ℕ → List ℕ
without_first_point v = if slice_index v 0 == 46 then drop 1 v else v

-- an extension: 1 to 32 such bytes, with a point before them or without
abbrev pub is_extension : List ℕ → Bool
is_extension v =
    nat_le 1 (length (without_first_point v)) && nat_le (length (without_first_point v)) 32
    && list_all is_extension_byte (without_first_point v)

-- each word is an extension
abbrev pub are_extensions : List Word → Bool
are_extensions [] = true
are_extensions (Closed v ∷ ws) = is_extension v && are_extensions ws
are_extensions (Unclosed ∷ ws) = false

-- one extension or more
abbrev pub are_some_extensions : List Word → Bool
are_some_extensions ws = nat_lt 0 (length ws) && are_extensions ws

-- the words of an AddType: a type, and one extension or more
abbrev pub are_type_words : List Word → Bool
are_type_words [] = false
are_type_words (Closed v ∷ ws) = is_media_type v && are_some_extensions ws
are_type_words (Unclosed ∷ ws) = false

-- an extension as it is kept: without its point, in lower case
abbrev pub extension_kept : List ℕ → List ℕ
extension_kept v = map to_ascii_lowercase (without_first_point v)

-- the pairs of the type and these extensions
abbrev pub pairs_with : List ℕ → List Word → List TypePair
pairs_with media [] = []
pairs_with media (Closed v ∷ ws) = record { extension = extension_kept v; media = media } ∷ pairs_with media ws
pairs_with media (Unclosed ∷ ws) = pairs_with media ws

-- the pairs that such words add
abbrev pub pairs_of_words : List Word → List TypePair
pairs_of_words [] = []
pairs_of_words (Closed media ∷ ws) = pairs_with media ws
pairs_of_words (Unclosed ∷ ws) = []
