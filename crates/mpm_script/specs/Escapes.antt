-- Texts that spell bytes. A byte from 32 on other than 127 and the backslash stands for itself, and
-- `\r \n \t \\ \xHH` stand for the bytes that they stand for in Rust and C.
use Rattle.std.specs.Prelude.{◌≡◌, ℕ, ◌+◌, ◌*◌, Bool, true, ◌&&◌, not, ◌==◌, nat_le, if◌then◌else◌, List, [], ◌∷◌, ◌++◌, Option, None, Some}
use Rattle.std.specs.Char.{is_ascii_hexdigit, digit_value}

-- a byte that stands for itself; 92 is the backslash
abbrev pub is_plain : ℕ → Bool
is_plain b = nat_le 32 b && (not (b == 92) && not (b == 127))

-- the byte that a letter behind a backslash stands for: 'r', 'n', 't', and the backslash itself
abbrev pub letter_value : ℕ → Option ℕ
letter_value c =
    if c == 114 then Some 13
    else if c == 110 then Some 10
    else if c == 116 then Some 9
    else if c == 92 then Some 92
    else None

-- what may stand behind a backslash, and the byte that both stand for: a letter, or 'x' and two hexadecimal digits
pub data IsEscape : List ℕ → ℕ → Type 0 where
  letter : {c b : ℕ} → letter_value c ≡ Some b → IsEscape (c ∷ []) b
  digits : {high low : ℕ} → is_ascii_hexdigit high ≡ true → is_ascii_hexdigit low ≡ true
      → IsEscape (120 ∷ high ∷ low ∷ []) (16 * digit_value high + digit_value low)

-- a piece of text that spells one byte
pub data SpellsByte : List ℕ → ℕ → Type 0 where
  plain : {b : ℕ} → is_plain b ≡ true → SpellsByte (b ∷ []) b
  escape : {code : List ℕ} {b : ℕ} → IsEscape code b → SpellsByte (92 ∷ code) b

-- a text spells bytes, one piece of it each
abbrev pub Spells : List ℕ → List ℕ → Type 0
Spells text [] = text ≡ []
Spells text (b ∷ bytes) = (piece : List ℕ) × (rest : List ℕ) × SpellsByte piece b × (text ≡ piece ++ rest) × Spells rest bytes
