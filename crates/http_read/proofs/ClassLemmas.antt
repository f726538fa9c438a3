-- Bytes have one reading as the lines of a head: a first line that is too long, no end, or an end at one place with the
-- same field lines.
use Rattle.std.proofs.Common.{◌≡◌, ℕ, ◌+◌, ◌<◌, inl, inr, Bool, false, cond, List, [], ◌∷◌, ◌++◌, length, eqb, ltb, refl, sym, ap, ◌∙◌, arith}
use Rattle.std.specs.Prelude.{All, ◌==◌}
use Rattle.std.specs.List.{slice_split}
use Rattle.std.proofs.lemmas.Bool.{ne_eqb, eq-eqb, lt-ltb, le-ltb}
use Rattle.std.proofs.lemmas.List.{append_assoc, length-append}
use Rattle.std.proofs.lemmas.List.Elements.{All-head, All-tail}
use Rattle.std.proofs.lemmas.List.Splits.{slice_split_none, slice_split_at, length-slice_split}
use Rattle.http_read.specs.declared.request.Limits.{Limits}
use Rattle.http_read.specs.HeadLines.{IsHeadLine, print_lines, line_len, IsEmptyLine, IsFilledLine, AreHeadLines, BreaksLineLimit, IsUnended, IsHeadText}
use Rattle.http_read.proofs.HeadLineLemmas.{print_lines-append}

-- the reading of bytes: the first line is too long, there is no end, or it is behind so many bytes, with these field lines
pub data Class : Type 0 where
  Long : Class
  Unended : Class
  Ends : ℕ → List (List ℕ) → Class

-- the same behind k more bytes, and behind a field line
abbrev pub moved : ℕ → Class → Class
moved k Long = Long
moved k Unended = Unended
moved k (Ends n fields) = Ends (k + n) fields

abbrev behind_field : List ℕ → Class → Class
behind_field line Long = Long
behind_field line Unended = Unended
behind_field line (Ends n fields) = Ends (length line + 1 + n) (line ∷ fields)

-- the lines of bytes, the last of which isn't whole
abbrev pub parts : List ℕ → List (List ℕ)
parts bytes = slice_split (λ b. b == 10) bytes

abbrev is_last : List (List ℕ) → Bool
is_last lines = eqb (length lines) 0

abbrev pub class_fields : List (List ℕ) → Class
class_fields [] = Unended
class_fields (line ∷ lines) =
    cond (is_last lines) Unended (cond (eqb (line_len line) 0) (Ends (length line + 1) []) (behind_field line (class_fields lines)))

abbrev pub class_first : ℕ → List (List ℕ) → Class
class_first limit [] = Unended
class_first limit (line ∷ lines) =
    cond (is_last lines) (cond (ltb (length line) (limit + 2)) Unended Long)
    (cond (eqb (line_len line) 0) (moved (length line + 1) (class_first limit lines))
    (cond (ltb limit (line_len line)) Long (moved (length line + 1) (class_fields lines))))

-- the reading of bytes
abbrev pub class_of : Limits → List ℕ → Class
class_of limits bytes = class_first limits.line (parts bytes)

-- ## One line

pub parts_line : (line x : List ℕ) → IsHeadLine line → parts (line ++ 10 ∷ x) ≡ line ∷ parts x
parts_line line x is = slice_split_at (λ b. b == 10) line 10 x is refl

not_last : (x : List ℕ) → is_last (parts x) ≡ false
not_last x = ne_eqb (length (parts x)) 0 (λ e. absurd (omega (arith, e, length-slice_split (λ b. b == 10) x)))

first_line_is : (limit : ℕ) (line x : List ℕ) → IsHeadLine line → class_first limit (parts (line ++ 10 ∷ x)) ≡ cond (eqb (line_len line) 0) (moved (length line + 1) (class_first limit (parts x))) (cond (ltb limit (line_len line)) Long (moved (length line + 1) (class_fields (parts x))))
first_line_is limit line x is =
    ap (class_first limit) (parts_line line x is)
    ∙ ap (λ t. cond t (cond (ltb (length line) (limit + 2)) Unended Long) (cond (eqb (line_len line) 0) (moved (length line + 1) (class_first limit (parts x))) (cond (ltb limit (line_len line)) Long (moved (length line + 1) (class_fields (parts x)))))) (not_last x)

field_line_is : (line x : List ℕ) → IsHeadLine line → class_fields (parts (line ++ 10 ∷ x)) ≡ cond (eqb (line_len line) 0) (Ends (length line + 1) []) (behind_field line (class_fields (parts x)))
field_line_is line x is =
    ap class_fields (parts_line line x is)
    ∙ ap (λ t. cond t Unended (cond (eqb (line_len line) 0) (Ends (length line + 1) []) (behind_field line (class_fields (parts x))))) (not_last x)

first_front_is : (limit : ℕ) (front : List ℕ) → IsHeadLine front → class_first limit (parts front) ≡ cond (ltb (length front) (limit + 2)) Unended Long
first_front_is limit front is = ap (class_first limit) (slice_split_none (λ b. b == 10) front is)

field_front_is : (front : List ℕ) → IsHeadLine front → class_fields (parts front) ≡ Unended
field_front_is front is = ap class_fields (slice_split_none (λ b. b == 10) front is)

-- an empty line, a first line, a field line
blank_is : (limit : ℕ) (line x : List ℕ) → IsEmptyLine line → class_first limit (parts (line ++ 10 ∷ x)) ≡ moved (length line + 1) (class_first limit (parts x))
blank_is limit line x h =
    first_line_is limit line x h.is_line
    ∙ ap (λ t. cond t (moved (length line + 1) (class_first limit (parts x))) (cond (ltb limit (line_len line)) Long (moved (length line + 1) (class_fields (parts x))))) (eq-eqb (line_len line) 0 h.empty)

filled_is : (limit : ℕ) (line x : List ℕ) → IsHeadLine line → 0 < line_len line → class_first limit (parts (line ++ 10 ∷ x)) ≡ cond (ltb limit (line_len line)) Long (moved (length line + 1) (class_fields (parts x)))
filled_is limit line x is some =
    first_line_is limit line x is
    ∙ ap (λ t. cond t (moved (length line + 1) (class_first limit (parts x))) (cond (ltb limit (line_len line)) Long (moved (length line + 1) (class_fields (parts x))))) (ne_eqb (line_len line) 0 (λ e. absurd (omega (arith, e, some))))

field_is : (line x : List ℕ) → IsFilledLine line → class_fields (parts (line ++ 10 ∷ x)) ≡ behind_field line (class_fields (parts x))
field_is line x h =
    field_line_is line x h.is_line
    ∙ ap (λ t. cond t (Ends (length line + 1) []) (behind_field line (class_fields (parts x)))) (ne_eqb (line_len line) 0 (λ e. absurd (omega (arith, e, h.filled))))

end_is : (line x : List ℕ) → IsEmptyLine line → class_fields (parts (line ++ 10 ∷ x)) ≡ Ends (length line + 1) []
end_is line x h =
    field_line_is line x h.is_line
    ∙ ap (λ t. cond t (Ends (length line + 1) []) (behind_field line (class_fields (parts x)))) (eq-eqb (line_len line) 0 h.empty)

-- ## Several lines

moved-moved : (j k : ℕ) (c : Class) → moved j (moved k c) ≡ moved (j + k) c
moved-moved j k Long = refl
moved-moved j k Unended = refl
moved-moved j k (Ends n fields) = let e : j + (k + n) ≡ j + k + n = omega arith in ap (λ m. Ends m fields) e

moved-zero : (c : Class) → c ≡ moved 0 c
moved-zero Long = refl
moved-zero Unended = refl
moved-zero (Ends n fields) = let e : n ≡ 0 + n = omega arith in ap (λ m. Ends m fields) e

line_size : (line rest : List ℕ) → length (line ++ 10 ∷ rest) ≡ length line + 1 + length rest
line_size line rest = omega (arith, length-append line (10 ∷ rest))

blanks_are : (limit : ℕ) (blank : List (List ℕ)) (x : List ℕ) → All IsEmptyLine blank → class_first limit (parts (print_lines blank ++ x)) ≡ moved (length (print_lines blank)) (class_first limit (parts x))
blanks_are limit [] x all = moved-zero (class_first limit (parts x))
blanks_are limit (line ∷ blank) x all =
    ap (λ t. class_first limit (parts t)) (append_assoc line (10 ∷ print_lines blank) x)
    ∙ blank_is limit line (print_lines blank ++ x) (All-head IsEmptyLine line blank all)
    ∙ ap (moved (length line + 1)) (blanks_are limit blank x (All-tail IsEmptyLine line blank all))
    ∙ moved-moved (length line + 1) (length (print_lines blank)) (class_first limit (parts x))
    ∙ ap (λ k. moved k (class_first limit (parts x))) (sym (line_size line (print_lines blank)))

fields_unended : (fields : List (List ℕ)) (front : List ℕ) → All IsFilledLine fields → IsHeadLine front → class_fields (parts (print_lines fields ++ front)) ≡ Unended
fields_unended [] front all is = field_front_is front is
fields_unended (line ∷ fields) front all is =
    ap (λ t. class_fields (parts t)) (append_assoc line (10 ∷ print_lines fields) front)
    ∙ field_is line (print_lines fields ++ front) (All-head IsFilledLine line fields all)
    ∙ ap (behind_field line) (fields_unended fields front (All-tail IsFilledLine line fields all) is)

fields_end : (fields : List (List ℕ)) (end x : List ℕ) → All IsFilledLine fields → IsEmptyLine end → class_fields (parts (print_lines fields ++ (end ++ 10 ∷ x))) ≡ Ends (length (print_lines fields) + (length end + 1)) fields
fields_end [] end x all is = end_is end x is ∙ zero_more (length end + 1)
  where
    zero_more : (n : ℕ) → Ends n [] ≡ Ends (0 + n) []
    zero_more n = let e : n ≡ 0 + n = omega arith in ap (λ m. Ends m []) e
fields_end (line ∷ fields) end x all is =
    let size : length line + 1 + (length (print_lines fields) + (length end + 1)) ≡ length (line ++ 10 ∷ print_lines fields) + (length end + 1) = omega (arith, line_size line (print_lines fields)) in
    ap (λ t. class_fields (parts t)) (append_assoc line (10 ∷ print_lines fields) (end ++ 10 ∷ x))
    ∙ field_is line (print_lines fields ++ (end ++ 10 ∷ x)) (All-head IsFilledLine line fields all)
    ∙ ap (behind_field line) (fields_end fields end x (All-tail IsFilledLine line fields all) is)
    ∙ ap (λ m. Ends m (line ∷ fields)) size

-- behind the first line, the reading is that of the field lines
first_is : (limits : Limits) (lines fields : List (List ℕ)) (x : List ℕ) (h : AreHeadLines limits lines fields) → class_of limits (print_lines lines ++ x) ≡ moved (length (print_lines h.blank)) (moved (length h.first + 1) (class_fields (parts (print_lines fields ++ x))))
first_is limits lines fields x h =
    let first = h.first in
    let printed : print_lines lines ≡ print_lines h.blank ++ (first ++ 10 ∷ print_lines fields) = ap print_lines h.lines_are ∙ print_lines-append h.blank (first ∷ fields) in
    ap (λ t. class_of limits (t ++ x)) printed
    ∙ ap (class_of limits) (append_assoc (print_lines h.blank) (first ++ 10 ∷ print_lines fields) x ∙ ap (λ t. print_lines h.blank ++ t) (append_assoc first (10 ∷ print_lines fields) x))
    ∙ blanks_are limits.line h.blank (first ++ 10 ∷ (print_lines fields ++ x)) h.blank_lines
    ∙ ap (moved (length (print_lines h.blank))) (filled_is limits.line first (print_lines fields ++ x) h.first_line.is_line h.first_line.filled)
    ∙ ap (λ t. moved (length (print_lines h.blank)) (cond t Long (moved (length first + 1) (class_fields (parts (print_lines fields ++ x)))))) (le-ltb limits.line (line_len first) h.first_fits)

-- ## The three readings

pub class_long : (limits : Limits) (bytes : List ℕ) → BreaksLineLimit limits bytes → class_of limits bytes ≡ Long
class_long limits bytes (inl h) =
    let some : 0 < line_len h.first = omega (arith, h.long) in
    ap (class_of limits) h.bytes_are
    ∙ blanks_are limits.line h.blank (h.first ++ 10 ∷ h.behind) h.blank_lines
    ∙ ap (moved (length (print_lines h.blank))) (filled_is limits.line h.first h.behind h.first_line some ∙ ap (λ t. cond t Long (moved (length h.first + 1) (class_fields (parts h.behind)))) (lt-ltb limits.line (line_len h.first) h.long))
class_long limits bytes (inr h) =
    ap (class_of limits) h.bytes_are
    ∙ blanks_are limits.line h.blank h.front h.blank_lines
    ∙ ap (moved (length (print_lines h.blank))) (first_front_is limits.line h.front h.front_line ∙ ap (λ t. cond t Unended Long) (le-ltb (length h.front) (limits.line + 2) h.long))

pub class_unended : (limits : Limits) (bytes : List ℕ) → IsUnended limits bytes → class_of limits bytes ≡ Unended
class_unended limits bytes (inl h) =
    ap (class_of limits) h.bytes_are
    ∙ blanks_are limits.line h.blank h.front h.blank_lines
    ∙ ap (moved (length (print_lines h.blank))) (first_front_is limits.line h.front h.front_line ∙ ap (λ t. cond t Unended Long) (lt-ltb (length h.front) (limits.line + 2) h.short))
class_unended limits bytes (inr h) =
    ap (class_of limits) h.bytes_are
    ∙ first_is limits h.lines h.fields h.front h.head_lines
    ∙ ap (λ c. moved (length (print_lines h.head_lines.blank)) (moved (length h.head_lines.first + 1) c)) (fields_unended h.fields h.front h.head_lines.field_lines h.front_line)

pub class_ends : (limits : Limits) (text behind : List ℕ) (fields : List (List ℕ)) → IsHeadText limits text fields → class_of limits (text ++ behind) ≡ Ends (length text) fields
class_ends limits text behind fields h =
    let lines = h.head_lines in
    let size : length (print_lines lines.blank) + (length lines.first + 1 + (length (print_lines fields) + (length h.end + 1))) ≡ length text =
    omega (
      arith,
      ap length h.text_is,
      length-append (print_lines h.lines) (h.end ++ 10 ∷ []),
      length-append h.end (10 ∷ []),
      ap (λ t. length (print_lines t)) lines.lines_are,
      ap length (print_lines-append lines.blank (lines.first ∷ fields)),
      length-append (print_lines lines.blank) (lines.first ++ 10 ∷ print_lines fields),
      line_size lines.first (print_lines fields),
    ) in
    ap (λ t. class_of limits (t ++ behind)) h.text_is
    ∙ ap (class_of limits) (append_assoc (print_lines h.lines) (h.end ++ 10 ∷ []) behind ∙ ap (λ t. print_lines h.lines ++ t) (append_assoc h.end (10 ∷ []) behind))
    ∙ first_is limits h.lines fields (h.end ++ 10 ∷ behind) lines
    ∙ ap (λ c. moved (length (print_lines lines.blank)) (moved (length lines.first + 1) c)) (fields_end fields h.end behind lines.field_lines h.end_line)
    ∙ ap (λ n. Ends n fields) size
