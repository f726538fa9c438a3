-- How the text of a head is read by the version in its first line.
use Rattle.std.proofs.Common.{◌≡◌, ℕ, ◌+◌, ◌-◌, ◌<◌, ◌≤◌, ◌⊎◌, inl, inr, Bool, true, false, cond, List, [], ◌∷◌, ◌++◌, length, get_or, set, eqb, refl, sym, ap, ◌∙◌, subst, arith}
use Rattle.std.specs.Prelude.{IsTrue, IsFalse, ◌==◌, All}
use Rattle.std.proofs.lemmas.Bool.{both_ways, cond-true, cond-false, eq-eqb, ne_eqb}
use Rattle.std.proofs.lemmas.List.{append_assoc, length-append, length-set, set-append_left, set-append_right}
use Rattle.std.proofs.lemmas.List.Elements.{All-head, All-tail}
use Rattle.http_read.specs.declared.request.Limits.{Limits}
use Rattle.http_read.specs.declared.head.HeadAnswer.{HeadAnswer}
use Rattle.http_read.specs.declared.head.HeadAnswer.TheVariants as answer
use Rattle.http_read.specs.declared.version.Version.{Version}
use Rattle.http_read.specs.declared.version.Version.TheVariants as version
use Rattle.http_read.specs.HeadLines.{IsHeadLine, print_lines, line_len, IsEmptyLine, IsHeadText}
use Rattle.http_read.specs.Versions.{names_other_major, names_later_minor, line_as_read, text_as_read}
use Rattle.http_read.specs.LookedAt.{version_at}
use Rattle.http_read.specs.TextsInside.{TextIs, ReadsBy}
use Rattle.http_read.proofs.HeadLineLemmas.{print_lines-append}
use Rattle.http_read.proofs.ClassLemmas.{parts, parts_line}

-- ## The text with its first line as it is read

-- the same lines, of an equal text
abbrev pub same_lines_of : {limits : Limits} {text other : List ℕ} {fields : List (List ℕ)} → text ≡ other → IsHeadText limits text fields → IsHeadText limits other fields
same_lines_of e h = record { lines = h.lines; end = h.end; head_lines = h.head_lines; end_line = h.end_line; text_is = sym e ∙ h.text_is }

line_len-le : (line : List ℕ) → line_len line ≤ length line
line_len-le line = at_most (length line) (get_or line (length line - 1) 0 == 13)
  where
    at_most : (n : ℕ) (t : Bool) → cond t (n - 1) n ≤ n
    at_most n true = omega arith
    at_most n false = omega arith

-- the bytes of the lines, and what stands behind them
shape : (blank fields : List (List ℕ)) (line tail : List ℕ) → print_lines (blank ++ line ∷ fields) ++ tail ≡ print_lines blank ++ (line ++ (10 ∷ print_lines fields ++ tail))
shape blank fields line tail =
    ap (λ t. t ++ tail) (print_lines-append blank (line ∷ fields))
    ∙ append_assoc (print_lines blank) (line ++ 10 ∷ print_lines fields) tail
    ∙ ap (λ t. print_lines blank ++ t) (append_assoc line (10 ∷ print_lines fields) tail)

set_in_line : (before line behind : List ℕ) (k a : ℕ) → k < length line → set (before ++ (line ++ behind)) (length before + k) a ≡ before ++ (set line k a ++ behind)
set_in_line before line behind k a inside =
    let place : length before + k - length before ≡ k = omega arith in
    set-append_right before (line ++ behind) (length before) (length before + k) a refl (omega arith)
    ∙ ap (λ i. before ++ set (line ++ behind) i a) place
    ∙ ap (λ t. before ++ t) (set-append_left line behind k a inside)

-- how many bytes stand before the first line
abbrev pub before_first_line : {limits : Limits} {text : List ℕ} {fields : List (List ℕ)} → IsHeadText limits text fields → ℕ
before_first_line h = length (print_lines h.head_lines.blank)

-- the text by its lines
pub printed_text : (limits : Limits) (text : List ℕ) (fields : List (List ℕ)) (h : IsHeadText limits text fields) → text ≡ print_lines (h.head_lines.blank ++ h.head_lines.first ∷ fields) ++ (h.end ++ 10 ∷ [])
printed_text limits text fields h = h.text_is ∙ ap (λ lines. print_lines lines ++ (h.end ++ 10 ∷ [])) h.head_lines.lines_are

pub first_shape : (limits : Limits) (text : List ℕ) (fields : List (List ℕ)) (h : IsHeadText limits text fields) → text ≡ print_lines h.head_lines.blank ++ (h.head_lines.first ++ (10 ∷ print_lines fields ++ (h.end ++ 10 ∷ [])))
first_shape limits text fields h = printed_text limits text fields h ∙ shape h.head_lines.blank fields h.head_lines.first (h.end ++ 10 ∷ [])

as_written : (limits : Limits) (text : List ℕ) (fields : List (List ℕ)) (h : IsHeadText limits text fields) → names_later_minor h.head_lines.first ≡ false → text_as_read h ≡ text
unfolding text_as_read line_as_read
as_written limits text fields h written =
    let same : line_as_read h.head_lines.first ≡ h.head_lines.first = cond-false (names_later_minor h.head_lines.first) _ _ written in
    ap (λ line. print_lines (h.head_lines.blank ++ line ∷ fields) ++ (h.end ++ 10 ∷ [])) same ∙ sym (printed_text limits text fields h)

as_later : (limits : Limits) (text : List ℕ) (fields : List (List ℕ)) (h : IsHeadText limits text fields) → names_later_minor h.head_lines.first ≡ true → text_as_read h ≡ set text (before_first_line h + (line_len h.head_lines.first - 1)) 49
unfolding text_as_read line_as_read
as_later limits text fields h later =
    let first = h.head_lines.first in
    let blank = h.head_lines.blank in
    let end : List ℕ = h.end ++ 10 ∷ [] in
    let k : ℕ = line_len first - 1 in
    let behind : List ℕ = 10 ∷ print_lines fields ++ end in
    let inside : k < length first = omega (arith, line_len-le first, h.head_lines.first_line.filled) in
    let one : line_as_read first ≡ set first k 49 = cond-true (names_later_minor first) _ _ later in
    shape blank fields (line_as_read first) end
    ∙ ap (λ line. print_lines blank ++ (line ++ behind)) one
    ∙ sym (set_in_line (print_lines blank) first behind k 49 inside)
    ∙ ap (λ t. set t (length (print_lines blank) + k) 49) (sym (first_shape limits text fields h))

pub length_as_read : (limits : Limits) (text : List ℕ) (fields : List (List ℕ)) (h : IsHeadText limits text fields) → length (text_as_read h) ≡ length text
length_as_read limits text fields h = by_minor (names_later_minor h.head_lines.first) refl
  where
    by_minor : (t : Bool) → names_later_minor h.head_lines.first ≡ t → length (text_as_read h) ≡ length text
    by_minor true e = ap length (as_later limits text fields h e) ∙ length-set text (before_first_line h + (line_len h.head_lines.first - 1)) 49
    by_minor false e = ap length (as_written limits text fields h e)

-- the digit that is read as 1 stands in the text
pub digit_within : (limits : Limits) (text : List ℕ) (fields : List (List ℕ)) (h : IsHeadText limits text fields) → before_first_line h + (line_len h.head_lines.first - 1) < length text
digit_within limits text fields h =
    let first = h.head_lines.first in
    let blank = print_lines h.head_lines.blank in
    let behind : List ℕ = 10 ∷ print_lines fields ++ (h.end ++ 10 ∷ []) in
    omega (
      arith,
      ap length (first_shape limits text fields h),
      length-append blank (first ++ behind),
      length-append first behind,
      line_len-le first,
      h.head_lines.first_line.filled,
    )

-- ## What a text says by its version

-- a text of these lines is refused for its version, or as it is read it says this
abbrev pub SaysAt : (limits : Limits) (text : List ℕ) (fields : List (List ℕ)) (h : IsHeadText limits text fields) (most : ℕ) (long : Bool) (given : HeadAnswer) → Type 0
SaysAt limits text fields h most long given =
    (IsTrue (names_other_major h.head_lines.first) × (given ≡ answer.Refused 505))
    ⊎ (IsFalse (names_other_major h.head_lines.first) × TextIs most long (text_as_read h) given)

pub says_from_reads : (limits : Limits) (text : List ℕ) (fields : List (List ℕ)) (h : IsHeadText limits text fields) (most : ℕ) (long : Bool) (given : HeadAnswer) → ReadsBy most long (version_at (before_first_line h) h.head_lines.first) text given → SaysAt limits text fields h most long given
says_from_reads limits text fields h most long given reads =
    by_version (names_other_major h.head_lines.first) (names_later_minor h.head_lines.first) refl refl reads
  where
    by_version : (other later : Bool) → names_other_major h.head_lines.first ≡ other → names_later_minor h.head_lines.first ≡ later
        → ReadsBy most long (cond other version.Other (cond later (version.Later (before_first_line h + (line_len h.head_lines.first - 1))) version.Written)) text given
        → SaysAt limits text fields h most long given
    by_version true later other_is later_is r = inl (other_is, r)
    by_version false true other_is later_is r =
        inr (other_is, subst (λ t. TextIs most long t given) (sym (as_later limits text fields h later_is)) r)
    by_version false false other_is later_is r =
        inr (other_is, subst (λ t. TextIs most long t given) (sym (as_written limits text fields h later_is)) r)

pub reads_from_says : (limits : Limits) (text : List ℕ) (fields : List (List ℕ)) (h : IsHeadText limits text fields) (most : ℕ) (long : Bool) (given : HeadAnswer) → SaysAt limits text fields h most long given → ReadsBy most long (version_at (before_first_line h) h.head_lines.first) text given
reads_from_says limits text fields h most long given says =
    by_version (names_other_major h.head_lines.first) (names_later_minor h.head_lines.first) refl refl says
  where
    by_version : (other later : Bool) → names_other_major h.head_lines.first ≡ other → names_later_minor h.head_lines.first ≡ later
        → SaysAt limits text fields h most long given
        → ReadsBy most long (cond other version.Other (cond later (version.Later (before_first_line h + (line_len h.head_lines.first - 1))) version.Written)) text given
    by_version true later other_is later_is (inl r) = r.1
    by_version true later other_is later_is (inr r) = absurd (both_ways (names_other_major h.head_lines.first) r.0 other_is)
    by_version false later other_is later_is (inl r) = absurd (both_ways (names_other_major h.head_lines.first) other_is r.0)
    by_version false true other_is later_is (inr r) = subst (λ t. TextIs most long t given) (as_later limits text fields h later_is) r.1
    by_version false false other_is later_is (inr r) = subst (λ t. TextIs most long t given) (as_written limits text fields h later_is) r.1

-- ## The first line of a text

-- the first line of lines that isn't empty, behind so many bytes
abbrev first_of : ℕ → List (List ℕ) → ℕ × List ℕ
first_of before [] = (before, [])
first_of before (line ∷ lines) = cond (eqb (line_len line) 0) (first_of (before + (length line + 1)) lines) (before, line)

abbrev version_by : ℕ × List ℕ → Version
version_by place = version_at place.0 place.1

-- how the version in the first line of a text is read
abbrev pub version_of : List ℕ → Version
version_of text = version_by (first_of 0 (parts text))

first_behind : (blank : List (List ℕ)) (before : ℕ) (first behind : List ℕ) → All IsEmptyLine blank → IsHeadLine first → 0 < line_len first → first_of before (parts (print_lines blank ++ (first ++ 10 ∷ behind))) ≡ (before + length (print_lines blank), first)
first_behind [] before first behind all is some =
    let none : before ≡ before + 0 = omega arith in
    ap (first_of before) (parts_line first behind is)
    ∙ ap (λ t. cond t (first_of (before + (length first + 1)) (parts behind)) (before, first)) (ne_eqb (line_len first) 0 (λ e. absurd (omega (arith, e, some))))
    ∙ ap (λ n. (n, first)) none
first_behind (line ∷ blank) before first behind all is some =
    let empty = All-head IsEmptyLine line blank all in
    let rest : List ℕ = print_lines blank ++ (first ++ 10 ∷ behind) in
    let size : before + (length line + 1) + length (print_lines blank) ≡ before + length (line ++ 10 ∷ print_lines blank) = omega (arith, length-append line (10 ∷ print_lines blank)) in
    ap (λ t. first_of before (parts t)) (append_assoc line (10 ∷ print_lines blank) (first ++ 10 ∷ behind))
    ∙ ap (first_of before) (parts_line line rest empty.is_line)
    ∙ ap (λ t. cond t (first_of (before + (length line + 1)) (parts rest)) (before, line)) (eq-eqb (line_len line) 0 empty.empty)
    ∙ first_behind blank (before + (length line + 1)) first behind (All-tail IsEmptyLine line blank all) is some
    ∙ ap (λ n. (n, first)) size

pub version_of_text : (limits : Limits) (text : List ℕ) (fields : List (List ℕ)) (h : IsHeadText limits text fields) → version_of text ≡ version_at (before_first_line h) h.head_lines.first
version_of_text limits text fields h =
    let first = h.head_lines.first in
    let none : 0 + before_first_line h ≡ before_first_line h = omega arith in
    ap (λ t. version_by (first_of 0 (parts t))) (first_shape limits text fields h)
    ∙ ap version_by (first_behind h.head_lines.blank 0 first (print_lines fields ++ (h.end ++ 10 ∷ [])) h.head_lines.blank_lines h.head_lines.first_line.is_line h.head_lines.first_line.filled)
    ∙ ap (λ n. version_at n first) none
