-- Each byte of a type, and of the name of a character set, can be seen.
use Rattle.std.proofs.Common.{◌≡◌, ℕ, ◌<◌, ◌==◌, ◌&&◌, nat_le, nat_lt, Bool, true, false, List, [], ◌∷◌, length, take, drop, codes, get_or, Some, None, if◌then◌else◌, refl, sym, subst, arith}
use Rattle.std.specs.List.{All, list_all, before_first, after_first, position_or_len}
use Rattle.std.specs.Str.{bytes_eq}
use Rattle.std.proofs.lemmas.Bool.Decides.{nat_tests}
use Rattle.std.proofs.lemmas.List.{take-append-drop}
use Rattle.std.proofs.lemmas.List.Elements.{All-append, All-cons, All-nil}
use Rattle.std.proofs.lemmas.List.Sums.{passes_at_first, split_at_first}
use Rattle.std.proofs.lemmas.Slice.Eq.{bytes_eq-Decides}
use Rattle.mpm_base.specs.LetterCase.{is_same_ignoring_case}
use Rattle.media_types.specs.declared.types.TypePair.{TypePair}
use Rattle.conf_text.specs.Parts.{parts_around}
use Rattle.conf_text.specs.Words.{Word, Closed, Unclosed}
use Rattle.type_words.specs.TypeLaws.{IsPrintable}
use Rattle.type_words.specs.TypeWords.{are_some_extensions, are_two_tokens, are_type_words, charset_of_value, is_charset_parameter, is_media_type, is_token, is_token_byte, is_type_text, pairs_of_words, pairs_with, without_spaces}

both : (a b : Bool) → (a && b) ≡ true → (a ≡ true) × (b ≡ true)
both true true h = (refl, refl)
both true false h = absurd (cc h)
both false b h = absurd (cc h)

-- ## Tokens

token-byte : (b : ℕ) → is_token_byte b ≡ true → IsPrintable b
token-byte b h = (grind (arith, nat_tests, h), grind (arith, nat_tests, h))

token-bytes : (v : List ℕ) → list_all is_token_byte v ≡ true → All IsPrintable v
token-bytes [] h = All-nil IsPrintable
token-bytes (b ∷ bs) h =
    let parts = both (is_token_byte b) (list_all is_token_byte bs) h in
    All-cons IsPrintable b bs (token-byte b parts.0) (token-bytes bs parts.1)

token : (v : List ℕ) → is_token v ≡ true → All IsPrintable v
token v h = token-bytes v (both (nat_lt 0 (length v)) (list_all is_token_byte v) h).1

-- the name of a character set is a token
pub charset-printable : (v : List ℕ) → charset_of_value v ≡ Some true → All IsPrintable v
charset-printable v h = by (is_same_ignoring_case v (codes "Off")) h where
  named : (t : Bool) → (t ≡ true → All IsPrintable v) → (if t then Some true else None) ≡ Some true → All IsPrintable v
  named true so is = so refl
  named false so is = absurd (cc is)

  by : (off : Bool) → (if off then Some false else (if is_token v && nat_le (length v) 40 then Some true else None)) ≡ Some true → All IsPrintable v
  by true is = absurd (cc is)
  by false is = named (is_token v && nat_le (length v) 40) (λ both_are. token v (both (is_token v) (nat_le (length v) 40) both_are).0) is

-- ## Types

below : {n m : ℕ} → nat_lt n m ≡ true → n < m
below {n} {m} found = grind (arith, nat_tests, found)

-- a text is as its parts are, and the byte between them
around : (c : ℕ) (v : List ℕ) → IsPrintable c → position_or_len (λ b. b == c) v < length v → All IsPrintable (before_first (λ b. b == c) v)
    → All IsPrintable (after_first (λ b. b == c) v) → All IsPrintable v
around c v own l before after =
    let at = get_or v (position_or_len (λ b. b == c) v) 0 in
    let same : at ≡ c = grind (arith, nat_tests, passes_at_first (λ b. b == c) v 0 l) in
    subst (All IsPrintable) (sym (split_at_first (λ b. b == c) v 0 l))
    (All-append IsPrintable (before_first (λ b. b == c) v) (at ∷ after_first (λ b. b == c) v) before
    (All-cons IsPrintable at (after_first (λ b. b == c) v) (subst IsPrintable (sym same) own) after))

two-tokens : (v : List ℕ) → are_two_tokens (parts_around 47 v) ≡ true → All IsPrintable v
two-tokens v h = by (nat_lt (position_or_len (λ b. b == 47) v) (length v)) refl h where
  by : (t : Bool) → nat_lt (position_or_len (λ b. b == 47) v) (length v) ≡ t
      → are_two_tokens (if t then Some (record { before = before_first (λ b. b == 47) v; after = after_first (λ b. b == 47) v }) else None) ≡ true
      → All IsPrintable v
  by true found is =
      let parts = both (is_token (before_first (λ b. b == 47) v)) (is_token (after_first (λ b. b == 47) v)) is in
      around 47 v (omega arith, omega arith) (below found) (token (before_first (λ b. b == 47) v) parts.0) (token (after_first (λ b. b == 47) v) parts.1)
  by false found is = absurd (cc is)

spaces : (v : List ℕ) → All IsPrintable (without_spaces v) → All IsPrintable v
spaces [] rest = rest
spaces (b ∷ bs) rest = by (b == 32) refl (λ behind. spaces bs behind) rest where
  by : (t : Bool) → (b == 32) ≡ t → (All IsPrintable (without_spaces bs) → All IsPrintable bs)
      → All IsPrintable (if t then without_spaces bs else b ∷ bs) → All IsPrintable (b ∷ bs)
  by true space further rest =
      let own : IsPrintable b = (grind (arith, nat_tests, space), grind (arith, nat_tests, space)) in
      All-cons IsPrintable b bs own (further rest)
  by false other further rest = rest

charset-is : All IsPrintable (codes "charset=")
charset-is =
    All-append IsPrintable (codes "charset") (61 ∷ []) (token-bytes (codes "charset") refl)
    (All-cons IsPrintable 61 [] (omega arith, omega arith) (All-nil IsPrintable))

parameter : (v : List ℕ) → is_charset_parameter v ≡ true → All IsPrintable v
parameter v h =
    let parts = both (bytes_eq (take 8 v) (codes "charset=")) (is_token (drop 8 v)) h in
    let front : take 8 v ≡ codes "charset=" = (bytes_eq-Decides (take 8 v) (codes "charset=")).0 parts.0 in
    subst (All IsPrintable) (take-append-drop 8 v)
    (All-append IsPrintable (take 8 v) (drop 8 v) (subst (All IsPrintable) (sym front) charset-is) (token (drop 8 v) parts.1))

type-text : (v : List ℕ) → is_type_text v (parts_around 59 v) ≡ true → All IsPrintable v
type-text v h = by (nat_lt (position_or_len (λ b. b == 59) v) (length v)) refl h where
  by : (t : Bool) → nat_lt (position_or_len (λ b. b == 59) v) (length v) ≡ t
      → is_type_text v (if t then Some (record { before = before_first (λ b. b == 59) v; after = after_first (λ b. b == 59) v }) else None) ≡ true
      → All IsPrintable v
  by true found is =
      let front = before_first (λ b. b == 59) v in
      let back = after_first (λ b. b == 59) v in
      let parts = both (are_two_tokens (parts_around 47 front)) (is_charset_parameter (without_spaces back)) is in
      around 59 v (omega arith, omega arith) (below found) (two-tokens front parts.0) (spaces back (parameter (without_spaces back) parts.1))
  by false found is = two-tokens v is

media-printable : (v : List ℕ) → is_media_type v ≡ true → All IsPrintable v
media-printable v h =
    type-text v (both (nat_le 3 (length v) && nat_le (length v) 127) (is_type_text v (parts_around 59 v)) h).1

-- ## Pairs

pairs-with-printable : (media : List ℕ) → All IsPrintable media → (ws : List Word) → All (λ (p : TypePair). All IsPrintable p.media) (pairs_with media ws)
pairs-with-printable media own [] = All-nil (λ (p : TypePair). All IsPrintable p.media)
pairs-with-printable media own (Closed v ∷ ws) = All-cons (λ (p : TypePair). All IsPrintable p.media) _ _ own (pairs-with-printable media own ws)
pairs-with-printable media own (Unclosed ∷ ws) = pairs-with-printable media own ws

pub pairs-printable : (ws : List Word) → are_type_words ws ≡ true → All (λ (p : TypePair). All IsPrintable p.media) (pairs_of_words ws)
pairs-printable [] h = absurd (cc h)
pairs-printable (Closed media ∷ ws) h = pairs-with-printable media (media-printable media (both (is_media_type media) (are_some_extensions ws) h).0) ws
pairs-printable (Unclosed ∷ ws) h = absurd (cc h)
