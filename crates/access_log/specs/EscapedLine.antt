-- A request line as it stands between the quotes of a log line, so that it is one line of printed ASCII and its end is found.
use Rattle.std.specs.Prelude.{ℕ, ◌/◌, ◌%◌, ◌==◌, ◌&&◌, ◌||◌, nat_le, Bool, false, List, [], ◌∷◌, if◌then◌else◌}
use Rattle.std.specs.List.{flat_map}
use Rattle.std.specs.Fmt.{digit_glyph}

-- a quote (34) or a backslash (92)
abbrev pub is_marked : ℕ → Bool
is_marked b = b == 34 || b == 92

-- a byte of printed ASCII, the space among them
abbrev pub is_printed : ℕ → Bool
is_printed b = nat_le 32 b && nat_le b 126

-- a byte as the log has it: a quote and a backslash with a backslash before them; what isn't printed as a backslash, an x (120) and two
-- lower-case hexadecimal digits, also a tab
abbrev pub escaped_byte : ℕ → List ℕ
escaped_byte b =
    if is_marked b then 92 ∷ b ∷ []
    else (if is_printed b then b ∷ [] else 92 ∷ 120 ∷ digit_glyph false (b / 16) ∷ digit_glyph false (b % 16) ∷ [])

-- the line, byte by byte
abbrev pub escaped : List ℕ → List ℕ
escaped line = flat_map escaped_byte line
