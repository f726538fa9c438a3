-- The request line of a head is its first line, and it stays the same whatever follows the head.
use Rattle.std.proofs.Common.{◌≡◌, ℕ, ◌+◌, ◌-◌, ◌<◌, ◌≤◌, ◌==◌, ◌⊎◌, inl, inr, Bool, false, List, [], ◌∷◌, ◌++◌, length, take, drop, refl, sym, ap, subst, ◌∙◌, append_assoc, append-nil, length-append, arith}
use Rattle.std.specs.Prelude.{get_or, min, if◌then◌else◌}
use Rattle.std.specs.List.{All, position_or_len}
use Rattle.std.proofs.lemmas.Bool.{cases_Bool, cases_lt, eqb-true}
use Rattle.std.proofs.lemmas.Bool.Decides.{nat_tests}
use Rattle.std.proofs.lemmas.List.{length-take-le, take-append-drop, take-append-le, take_all}
use Rattle.std.proofs.lemmas.List.Elements.{All-append, All-cons, All-head, All-nil, All-tail}
use Rattle.std.proofs.lemmas.List.Splits.{slice_split_at, slice_split_first, slice_split_none}
use Rattle.std.proofs.lemmas.List.Sums.{fails_before_first}
use Rattle.std.proofs.Math.Seq.{take-append-add}
use Rattle.http_read.specs.declared.request.Limits.{Limits}
use Rattle.http_read.specs.RequestParts.{RequestParts}
use Rattle.http_read.specs.Sizes.{greatest_head}
use Rattle.http_read.specs.HeadLines.{IsHeadLine, print_lines, line_len, IsEmptyLine, IsFilledLine, HasLongLine, HasLongFront}
use Rattle.http_read.specs.Head.{BeginsHead, EndsAt, IsRefusal, IsTooLarge, head_window}
use Rattle.access_log.specs.RequestLine.{is_feed, lines_of, first_filled, request_line}

-- ## Lines

whole_line : (line rest : List ℕ) → IsHeadLine line → lines_of (line ++ 10 ∷ rest) ≡ line ∷ lines_of rest
whole_line line rest h = slice_split_at is_feed line 10 rest h refl

-- there is always a line
pub record HasLine (bytes : List ℕ) : Type 0 where
  pub next : List ℕ
  pub others : List (List ℕ)
  pub lines_are : lines_of bytes ≡ next ∷ others

some_line : (bytes : List ℕ) → HasLine bytes
some_line [] = record { next = []; others = []; lines_are = refl }
some_line (b ∷ bytes) =
    elim (cases_Bool (is_feed b)) [
      | inl ends ↦ record { next = []; others = lines_of bytes; lines_are = rw ends refl }
      | inr goes ↦
          let more = some_line bytes in
          let lines = more.lines_are in
          record { next = b ∷ more.next; others = more.others; lines_are = rw (goes, lines) refl }
    ]

behind_line : (line rest : List ℕ)
    → first_filled (line ∷ lines_of rest) ≡ (if line_len line == 0 then first_filled (lines_of rest) else take (line_len line) line)
behind_line line rest =
    let more = some_line rest in
    let lines = more.lines_are in
    rw lines refl

filled_test : (n : ℕ) → 0 < n → (n == 0) ≡ false
filled_test n h = grind (arith, nat_tests)

skipped : (line rest : List ℕ) → line_len line ≡ 0 → first_filled (line ∷ lines_of rest) ≡ first_filled (lines_of rest)
skipped line rest h =
    behind_line line rest ∙ ap (λ (n : ℕ). if n == 0 then first_filled (lines_of rest) else take (line_len line) line) h

found : (line rest : List ℕ) → 0 < line_len line → first_filled (line ∷ lines_of rest) ≡ take (line_len line) line
found line rest h =
    behind_line line rest ∙ ap (λ (b : Bool). if b then first_filled (lines_of rest) else take (line_len line) line) (filled_test (line_len line) h)

pub skip_line : (line rest : List ℕ) → IsHeadLine line → line_len line ≡ 0 → first_filled (lines_of (line ++ 10 ∷ rest)) ≡ first_filled (lines_of rest)
skip_line line rest h empty = ap first_filled (whole_line line rest h) ∙ skipped line rest empty

pub find_line : (line rest : List ℕ) → IsHeadLine line → 0 < line_len line → first_filled (lines_of (line ++ 10 ∷ rest)) ≡ take (line_len line) line
find_line line rest h filled = ap first_filled (whole_line line rest h) ∙ found line rest filled

pub no_line : (rest : List ℕ) → IsHeadLine rest → first_filled (lines_of rest) ≡ rest
no_line rest h = ap first_filled (slice_split_none is_feed rest h)

behind_blank : (blank : List (List ℕ)) → All IsEmptyLine blank → (rest : List ℕ) → first_filled (lines_of (print_lines blank ++ rest)) ≡ first_filled (lines_of rest)
behind_blank [] h rest = refl
behind_blank (line ∷ blank) h rest =
    let empty : IsEmptyLine line = All-head IsEmptyLine line blank h in
    ap (λ text. first_filled (lines_of text)) (append_assoc line (10 ∷ print_lines blank) rest)
    ∙ skip_line line (print_lines blank ++ rest) empty.is_line empty.empty ∙ behind_blank blank (All-tail IsEmptyLine line blank h) rest

-- ## How long a line is

len_low : (line : List ℕ) → length line ≤ line_len line + 1
len_low line = elim (cases_Bool (get_or line (length line - 1) 0 == 13)) [ inl ends ↦ rw ends (omega arith) | inr goes ↦ rw goes (omega arith) ]

len_high : (line : List ℕ) → line_len line ≤ length line
len_high line = elim (cases_Bool (get_or line (length line - 1) 0 == 13)) [ inl ends ↦ rw ends (omega arith) | inr goes ↦ rw goes (omega arith) ]

take_less : (n m : ℕ) (line : List ℕ) → n ≤ m → m ≤ length line → take n (take m line) ≡ take n line
take_less n m line h k =
    let len = length-take-le m line k in
    sym (take-append-le n (take m line) (drop m line) (omega arith)) ∙ ap (take n) (take-append-drop m line)

-- ## Where a line stands

-- of the bytes up to a line feed
split_at : (bytes : List ℕ) (feed : ℕ) → feed ≡ position_or_len is_feed bytes → feed < length bytes → lines_of bytes ≡ take feed bytes ∷ lines_of (drop (feed + 1) bytes)
split_at bytes feed is within =
    let first = slice_split_first is_feed bytes 0 (subst (λ n. n < length bytes) is within) in
    first ∙ ap (λ n. take n bytes ∷ lines_of (drop (n + 1) bytes)) (sym is)

pub line_found : (bytes : List ℕ) (feed : ℕ) → feed ≡ position_or_len is_feed bytes → feed < length bytes → 0 < line_len (take feed bytes)
    → take (line_len (take feed bytes)) bytes ≡ first_filled (lines_of bytes)
line_found bytes feed is within filled =
    let line = take feed bytes in
    let len = length-take-le feed bytes (omega arith) in
    let high = len_high line in
    sym (take_less (line_len line) feed bytes (omega arith) (omega arith)) ∙ sym (found line (drop (feed + 1) bytes) filled)
    ∙ ap first_filled (sym (split_at bytes feed is within))

pub line_skipped : (bytes : List ℕ) (feed : ℕ) → feed ≡ position_or_len is_feed bytes → feed < length bytes → line_len (take feed bytes) ≡ 0
    → first_filled (lines_of (drop (feed + 1) bytes)) ≡ first_filled (lines_of bytes)
line_skipped bytes feed is within empty =
    sym (skipped (take feed bytes) (drop (feed + 1) bytes) empty) ∙ ap first_filled (sym (split_at bytes feed is within))

pub line_unended : (bytes : List ℕ) (feed : ℕ) → feed ≡ position_or_len is_feed bytes → length bytes ≤ feed → bytes ≡ first_filled (lines_of bytes)
line_unended bytes feed is over =
    sym (no_line bytes (λ k d h. fails_before_first is_feed bytes k d (subst (λ n. k < n) is (omega arith))))

pub take_within : (n : ℕ) (bytes : List ℕ) → take (min (length bytes) n) bytes ≡ take n bytes
take_within n bytes =
    elim (cases_lt n (length bytes)) [
      | inl below ↦ let same : min (length bytes) n ≡ n = omega arith in rw same refl
      | inr above ↦ let same : min (length bytes) n ≡ length bytes = omega arith in rw same (take_all (length bytes) bytes (omega arith) ∙ sym (take_all n bytes above))
    ]

-- ## Windows

longer : (n : ℕ) (bytes more : List ℕ) → (extra : List ℕ) × (take n (bytes ++ more) ≡ take n bytes ++ extra)
longer n bytes more =
    elim (cases_lt (length bytes) n) [
      | inl below ↦
          let add : length bytes + (n - length bytes) ≡ n = omega arith in
          (take (n - length bytes) more, ap (λ k. take k (bytes ++ more)) (sym add) ∙ take-append-add bytes more (n - length bytes) ∙ ap (λ text. text ++ take (n - length bytes) more) (sym (take_all n bytes (omega arith))))
      | inr above ↦ ([], take-append-le n bytes more above ∙ sym (append-nil (take n bytes)))
    ]

-- the window begins with empty lines, and behind them a line that isn't empty
pub record HasFirst (window first : List ℕ) : Type 0 where
  pub blank : List (List ℕ)
  pub behind : List ℕ
  pub blank_lines : All IsEmptyLine blank
  pub first_line : IsFilledLine first
  pub window_is : window ≡ print_lines blank ++ (first ++ 10 ∷ behind)

first_of : (window first : List ℕ) → HasFirst window first → first_filled (lines_of window) ≡ take (line_len first) first
first_of window first h =
    ap (λ text. first_filled (lines_of text)) h.window_is ∙ behind_blank h.blank h.blank_lines (first ++ 10 ∷ h.behind)
    ∙ find_line first h.behind h.first_line.is_line h.first_line.filled

first_longer : (window first extra : List ℕ) → HasFirst window first → HasFirst (window ++ extra) first
first_longer window first extra h = record {
  blank = h.blank;
  behind = h.behind ++ extra;
  blank_lines = h.blank_lines;
  first_line = h.first_line;
  window_is = ap (λ text. text ++ extra) h.window_is ∙ simp append_assoc;
}

first_stays : (limit : ℕ) (bytes more first : List ℕ) → HasFirst (head_window bytes) first → request_line limit (bytes ++ more) ≡ request_line limit bytes
first_stays limit bytes more first h =
    let extra = longer (greatest_head + 1) bytes more in
    ap (λ text. take limit (first_filled (lines_of text))) extra.1
    ∙ ap (take limit) (first_of (head_window bytes ++ extra.0) first (first_longer (head_window bytes) first extra.0 h) ∙ sym (first_of (head_window bytes) first h))

-- ## Heads

print_behind : (blank : List (List ℕ)) (first : List ℕ) (fields : List (List ℕ))
    → print_lines (blank ++ first ∷ fields) ≡ print_lines blank ++ (first ++ 10 ∷ print_lines fields)
print_behind [] first fields = refl
print_behind (line ∷ blank) first fields =
    ap (λ text. line ++ 10 ∷ text) (print_behind blank first fields) ∙ sym (append_assoc line (10 ∷ print_lines blank) (first ++ 10 ∷ print_lines fields))

front_of : (n m : ℕ) (bytes : List ℕ) → n ≤ m → n ≤ length bytes → (extra : List ℕ) × (take m bytes ≡ take n bytes ++ extra)
front_of n m bytes h k =
    let more = longer m (take n bytes) (drop n bytes) in
    let len = length-take-le n bytes k in
    (more.0, ap (take m) (sym (take-append-drop n bytes)) ∙ more.1 ∙ ap (λ text. text ++ more.0) (take_all m (take n bytes) (omega arith)))

first_of_head : {limits : Limits} {bytes : List ℕ} {n : ℕ} {fields : List (List ℕ)} (h : EndsAt limits bytes n fields)
    → HasFirst (head_window bytes) h.text.head_lines.first
first_of_head {limits} {bytes} {n} {fields} h =
    let lines = h.text.head_lines in
    let extra = front_of n (greatest_head + 1) bytes (omega (arith, h.fits)) h.within in
    let printed = ap print_lines lines.lines_are ∙ print_behind lines.blank lines.first fields in
    record {
      blank = lines.blank;
      behind = print_lines fields ++ ((h.text.end ++ 10 ∷ []) ++ extra.0);
      blank_lines = lines.blank_lines;
      first_line = lines.first_line;
      window_is = extra.1 ∙ ap (λ text. text ++ extra.0) (h.text.text_is ∙ ap (λ text. text ++ (h.text.end ++ 10 ∷ [])) printed) ∙ simp append_assoc;
    }

pub head_line : (limits : Limits) (bytes : List ℕ) (request : RequestParts) (n : ℕ) (head : BeginsHead limits bytes request n)
    → let first = head.ends.text.head_lines.first in request_line limits.line bytes ≡ take (line_len first) first
head_line limits bytes request n head =
    let lines = head.ends.text.head_lines in
    let len = length-take-le (line_len lines.first) lines.first (len_high lines.first) in
    ap (take limits.line) (first_of (head_window bytes) lines.first (first_of_head head.ends))
    ∙ take_all limits.line (take (line_len lines.first) lines.first) (omega (arith, lines.first_fits))

pub head_stays : (limits : Limits) (bytes more : List ℕ) (request : RequestParts) (n : ℕ) → BeginsHead limits bytes request n
    → request_line limits.line (bytes ++ more) ≡ request_line limits.line bytes
head_stays limits bytes more request n head = first_stays limits.line bytes more head.ends.text.head_lines.first (first_of_head head.ends)

-- ## Refused heads

-- bytes up to their first line feed
pub record HasCut (bytes : List ℕ) : Type 0 where
  pub before : List ℕ
  pub behind : List ℕ
  pub one_line : IsHeadLine before
  pub bytes_are : bytes ≡ before ++ 10 ∷ behind

cut_at_feed : (bytes : List ℕ) → IsHeadLine bytes ⊎ HasCut bytes
cut_at_feed [] = inl (All-nil (λ b. (b == 10) ≡ false))
cut_at_feed (b ∷ bytes) =
    elim (cases_Bool (b == 10)) [
      | inl ends ↦ inr (record { before = []; behind = bytes; one_line = All-nil (λ b. (b == 10) ≡ false); bytes_are = ap (λ c. c ∷ bytes) (eqb-true b 10 ends) })
      | inr goes ↦
          elim (cut_at_feed bytes) [
            | inl one ↦ inl (All-cons (λ b. (b == 10) ≡ false) b bytes goes one)
            | inr cut ↦
                inr (record { before = b ∷ cut.before; behind = cut.behind; one_line = All-cons (λ b. (b == 10) ≡ false) b cut.before goes cut.one_line; bytes_are = ap (λ text. b ∷ text) cut.bytes_are })
          ]
    ]

front_stays : (limit : ℕ) (front extra : List ℕ) → IsHeadLine front → limit + 2 ≤ length front
    → take limit (first_filled (lines_of (front ++ extra))) ≡ take limit front
front_stays limit front extra h long =
    elim (cut_at_feed extra) [
      | inl one ↦
          ap (take limit) (no_line (front ++ extra) (All-append (λ b. (b == 10) ≡ false) front extra h one)) ∙ take-append-le limit front extra (omega arith)
      | inr cut ↦
          let line = front ++ cut.before in
          let whole : front ++ extra ≡ line ++ 10 ∷ cut.behind = ap (λ text. front ++ text) cut.bytes_are ∙ sym (append_assoc front cut.before (10 ∷ cut.behind)) in
          let low = len_low line in
          let high = len_high line in
          let len = length-append front cut.before in
          ap (λ text. take limit (first_filled (lines_of text))) whole
          ∙ ap (take limit) (find_line line cut.behind (All-append (λ b. (b == 10) ≡ false) front cut.before h cut.one_line) (omega arith))
          ∙ take_less limit (line_len line) line (omega arith) high ∙ take-append-le limit front cut.before (omega arith)
    ]

long_front_stays : (limits : Limits) (bytes more : List ℕ) → HasLongFront limits (head_window bytes)
    → request_line limits.line (bytes ++ more) ≡ request_line limits.line bytes
long_front_stays limits bytes more h =
    let extra = longer (greatest_head + 1) bytes more in
    let begun : first_filled (lines_of (head_window bytes)) ≡ h.front =
    ap (λ text. first_filled (lines_of text)) h.bytes_are ∙ behind_blank h.blank h.blank_lines h.front ∙ no_line h.front h.front_line in
    ap (λ text. take limits.line (first_filled (lines_of text))) (extra.1 ∙ ap (λ text. text ++ extra.0) h.bytes_are ∙ append_assoc (print_lines h.blank) h.front extra.0)
    ∙ ap (take limits.line) (behind_blank h.blank h.blank_lines (h.front ++ extra.0)) ∙ front_stays limits.line h.front extra.0 h.front_line h.long
    ∙ ap (take limits.line) (sym begun)

first_of_long_line : (limits : Limits) (window : List ℕ) (h : HasLongLine limits window) → HasFirst window h.first
first_of_long_line limits window h = record {
  blank = h.blank;
  behind = h.behind;
  blank_lines = h.blank_lines;
  first_line = record { is_line = h.first_line; filled = omega (arith, h.long) };
  window_is = h.bytes_are;
}

large_stays : (limits : Limits) (bytes more : List ℕ) → IsTooLarge limits bytes → request_line limits.line (bytes ++ more) ≡ request_line limits.line bytes
large_stays limits bytes more h =
    ap (λ text. take limits.line (first_filled (lines_of text))) (take-append-le (greatest_head + 1) bytes more (omega (arith, h.some)))

pub refusal_stays : (limits : Limits) (bytes more : List ℕ) (code : ℕ) → IsRefusal limits bytes code
    → request_line limits.line (bytes ++ more) ≡ request_line limits.line bytes
refusal_stays limits bytes more code (inl (inl long, is)) =
    first_stays limits.line bytes more long.first (first_of_long_line limits (head_window bytes) long)
refusal_stays limits bytes more code (inl (inr long, is)) = long_front_stays limits bytes more long
refusal_stays limits bytes more code (inr (inl (large, is))) = large_stays limits bytes more large
refusal_stays limits bytes more code (inr (inr (inl (other, is)))) =
    first_stays limits.line bytes more other.ends.text.head_lines.first (first_of_head other.ends)
refusal_stays limits bytes more code (inr (inr (inr (inl (none, is))))) =
    first_stays limits.line bytes more none.ends.text.head_lines.first (first_of_head none.ends)
refusal_stays limits bytes more code (inr (inr (inr (inr refused)))) =
    first_stays limits.line bytes more refused.ends.text.head_lines.first (first_of_head refused.ends)
