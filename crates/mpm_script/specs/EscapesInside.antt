-- How a text that spells bytes begins, for proofs alone.
use Rattle.std.specs.Prelude.{◌≡◌, ℕ, ◌+◌, ◌*◌, true, List, ◌∷◌, ◌++◌}
use Rattle.std.specs.Char.{is_ascii_hexdigit, digit_value}
use Rattle.mpm_script.specs.Escapes.{IsEscape, SpellsByte}

-- the text begins with an escape's code that stands for a byte
abbrev pub BeginsEscape : List ℕ → ℕ → List ℕ → Type 0
BeginsEscape text b rest = (code : List ℕ) × IsEscape code b × (text ≡ code ++ rest)

-- the text begins with a piece that stands for a byte
abbrev pub BeginsByte : List ℕ → ℕ → List ℕ → Type 0
BeginsByte text b rest = (piece : List ℕ) × SpellsByte piece b × (text ≡ piece ++ rest)

-- the text begins with the two digits of a byte
abbrev pub WritesByte : List ℕ → ℕ → List ℕ → Type 0
WritesByte text b rest =
    (high : ℕ) × (low : ℕ) × (is_ascii_hexdigit high ≡ true) × (is_ascii_hexdigit low ≡ true)
    × (b ≡ 16 * digit_value high + digit_value low) × (text ≡ high ∷ low ∷ rest)
