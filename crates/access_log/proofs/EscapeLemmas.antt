-- An escaped line is read back, and it ends where its quote stands.
use Rattle.std.proofs.Common.{◌≡◌, ℕ, ◌+◌, ◌*◌, ◌/◌, ◌%◌, ◌<◌, ◌==◌, Bool, true, false, List, [], ◌∷◌, ◌++◌, length, refl, sym, ap, ◌∙◌, append_assoc, length-append, arith}
use Rattle.std.specs.Prelude.{Option, Some, option_map, if◌then◌else◌}
use Rattle.std.specs.List.{All}
use Rattle.std.specs.Char.{digit_value, is_digit}
use Rattle.std.specs.Fmt.{digit_glyph}
use Rattle.std.proofs.lemmas.Bool.Decides.{nat_tests}
use Rattle.std.proofs.lemmas.List.Elements.{All-head, All-tail}
use Rattle.access_log.specs.EscapedLine.{is_marked, is_printed, escaped_byte, escaped}
use Rattle.access_log.specs.LogReading.{unescaped, quoted_len}

-- the line with one more byte before it, where it was read
abbrev pub with_byte : ℕ → Option (List ℕ) → Option (List ℕ)
with_byte b behind = option_map (λ line. b ∷ line) behind

-- ## Reading

digit_reads : (n : ℕ) → n < 16 → is_digit (digit_glyph false n) 16 ≡ true
digit_reads n h = grind (arith, nat_tests)

digit_back : (n : ℕ) → n < 16 → digit_value (digit_glyph false n) ≡ n
digit_back n h = grind (arith, nat_tests)

not_x : (b : ℕ) → is_marked b ≡ true → (b == 120) ≡ false
not_x b h = grind (arith, nat_tests)

not_backslash : (b : ℕ) → is_marked b ≡ false → (b == 92) ≡ false
not_backslash b h = grind (arith, nat_tests)

not_quote : (b : ℕ) → is_marked b ≡ false → (b == 34) ≡ false
not_quote b h = grind (arith, nat_tests)

marked_back : (b : ℕ) (text : List ℕ) → is_marked b ≡ true → unescaped (92 ∷ b ∷ text) ≡ with_byte b (unescaped text)
unfolding unescaped
marked_back b [] h = rw h refl
marked_back b (c ∷ []) h = rw h refl
marked_back b (c ∷ d ∷ rest) h = let x = not_x b h in rw (x, h) refl

plain_back : (b : ℕ) (text : List ℕ) → is_marked b ≡ false → unescaped (b ∷ text) ≡ with_byte b (unescaped text)
unfolding unescaped
plain_back b [] h = rw h refl
plain_back b (c ∷ []) h = let x = not_backslash b h in rw (h, x) refl
plain_back b (c ∷ d ∷ []) h = let x = not_backslash b h in rw (h, x) refl
plain_back b (c ∷ d ∷ e ∷ rest) h = let x = not_backslash b h in rw (h, x) refl

coded_back : (high low : ℕ) (text : List ℕ) → is_digit high 16 ≡ true → is_digit low 16 ≡ true
    → unescaped (92 ∷ 120 ∷ high ∷ low ∷ text) ≡ with_byte (16 * digit_value high + digit_value low) (unescaped text)
unfolding unescaped
coded_back high low text h k = rw (h, k) refl

number_back : (b : ℕ) → b < 256 → 16 * digit_value (digit_glyph false (b / 16)) + digit_value (digit_glyph false (b % 16)) ≡ b
number_back b small =
    let high = digit_back (b / 16) (omega arith) in
    let low = digit_back (b % 16) (omega arith) in
    rw (high, low) (omega arith)

any_back : (b : ℕ) (text : List ℕ) → b < 256 → (marked printed : Bool) → is_marked b ≡ marked
    → unescaped ((if marked then 92 ∷ b ∷ [] else (if printed then b ∷ [] else 92 ∷ 120 ∷ digit_glyph false (b / 16) ∷ digit_glyph false (b % 16) ∷ [])) ++ text)
    ≡ with_byte b (unescaped text)
any_back b text small true printed h = marked_back b text h
any_back b text small false true h = plain_back b text h
any_back b text small false false h =
    coded_back (digit_glyph false (b / 16)) (digit_glyph false (b % 16)) text (digit_reads (b / 16) (omega arith)) (digit_reads (b % 16) (omega arith))
    ∙ ap (λ n. with_byte n (unescaped text)) (number_back b small)

byte_back : (b : ℕ) (text : List ℕ) → b < 256 → unescaped (escaped_byte b ++ text) ≡ with_byte b (unescaped text)
byte_back b text small = any_back b text small (is_marked b) (is_printed b) refl

none_back : unescaped [] ≡ Some []
unfolding unescaped
none_back = refl

pub escaped_back : (line : List ℕ) → All (λ b. b < 256) line → unescaped (escaped line) ≡ Some line
escaped_back [] h = none_back
escaped_back (b ∷ line) h =
    byte_back b (escaped line) (All-head (λ b. b < 256) b line h) ∙ ap (with_byte b) (escaped_back line (All-tail (λ b. b < 256) b line h))

-- ## Where it ends

quote_len : (rest : List ℕ) → quoted_len (34 ∷ rest) ≡ 0
unfolding quoted_len
quote_len [] = refl
quote_len (c ∷ rest) = refl

marked_len : (b : ℕ) (text : List ℕ) → quoted_len (92 ∷ b ∷ text) ≡ 2 + quoted_len text
unfolding quoted_len
marked_len b text = refl

pub plain_len : (b : ℕ) (text : List ℕ) → (b == 34) ≡ false → (b == 92) ≡ false → quoted_len (b ∷ text) ≡ 1 + quoted_len text
unfolding quoted_len
plain_len b [] h k = rw h refl
plain_len b (c ∷ text) h k = rw (h, k) refl

digit_no_quote : (n : ℕ) → (digit_glyph false n == 34) ≡ false
digit_no_quote n = grind (arith, nat_tests)

digit_no_backslash : (n : ℕ) → (digit_glyph false n == 92) ≡ false
digit_no_backslash n = grind (arith, nat_tests)

digit_len : (n : ℕ) (text : List ℕ) → quoted_len (digit_glyph false n ∷ text) ≡ 1 + quoted_len text
digit_len n text = plain_len (digit_glyph false n) text (digit_no_quote n) (digit_no_backslash n)

coded_len : (high low : ℕ) (text : List ℕ) → quoted_len (92 ∷ 120 ∷ digit_glyph false high ∷ digit_glyph false low ∷ text) ≡ 4 + quoted_len text
coded_len high low text =
    let first = marked_len 120 (digit_glyph false high ∷ digit_glyph false low ∷ text) in
    let second = digit_len high (digit_glyph false low ∷ text) in
    let third = digit_len low text in
    omega (arith, first, second, third)

any_len : (b : ℕ) (text : List ℕ) → (marked printed : Bool) → is_marked b ≡ marked
    → let piece = (if marked then 92 ∷ b ∷ [] else (if printed then b ∷ [] else 92 ∷ 120 ∷ digit_glyph false (b / 16) ∷ digit_glyph false (b % 16) ∷ [])) in
    quoted_len (piece ++ text) ≡ length piece + quoted_len text
any_len b text true printed h = marked_len b text
any_len b text false true h = plain_len b text (not_quote b h) (not_backslash b h)
any_len b text false false h = coded_len (b / 16) (b % 16) text

byte_len : (b : ℕ) (text : List ℕ) → quoted_len (escaped_byte b ++ text) ≡ length (escaped_byte b) + quoted_len text
byte_len b text = any_len b text (is_marked b) (is_printed b) refl

pub escaped_len : (line rest : List ℕ) → quoted_len (escaped line ++ 34 ∷ rest) ≡ length (escaped line)
escaped_len [] rest = quote_len rest
escaped_len (b ∷ line) rest =
    let piece = escaped_byte b in
    ap quoted_len (append_assoc piece (escaped line) (34 ∷ rest)) ∙ byte_len b (escaped line ++ 34 ∷ rest)
    ∙ ap (λ n. length piece + n) (escaped_len line rest) ∙ sym (length-append piece (escaped line))

-- the hyphen that stands for an empty line
pub hyphen_len : (rest : List ℕ) → quoted_len (45 ∷ 34 ∷ rest) ≡ 1
hyphen_len rest = plain_len 45 (34 ∷ rest) refl refl ∙ ap (λ n. 1 + n) (quote_len rest)
