-- What types and character sets come to: a statement above the words that spell them.
use Rattle.std.specs.Prelude.{◌≡◌, ℕ, ◌<◌, ◌≤◌, true, List, All, Some}
use Rattle.conf_text.specs.Words.{Word}
use Rattle.media_types.specs.declared.types.TypePair.{TypePair}
use Rattle.type_words.specs.TypeWords.{are_type_words, charset_of_value, pairs_of_words}

-- the byte is a space, or one of ASCII that is seen: none by which a line ends
abbrev pub IsPrintable : ℕ → Type 0
IsPrintable b = (32 ≤ b) × (b < 127)

-- so is each byte of a type that a line adds, and of a character set that is named: with neither can a line of a head end early
pub record ArePrintable : Type 0 where
  pub types : (ws : List Word) → are_type_words ws ≡ true → All (λ (p : TypePair). All IsPrintable p.media) (pairs_of_words ws)
  pub charsets : (v : List ℕ) → charset_of_value v ≡ Some true → All IsPrintable v
