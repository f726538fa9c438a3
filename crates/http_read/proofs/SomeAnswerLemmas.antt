-- Bytes have an answer as a head: their lines are read one by one, and what they are is found.
use Rattle.std.proofs.Common.{◌≡◌, ◌≢◌, ℕ, ◌+◌, ◌<◌, ◌≤◌, ◌⊎◌, inl, inr, Bool, true, false, List, [], ◌∷◌, ◌++◌, length, take, refl, sym, ap, ◌∙◌, subst, arith}
use Rattle.std.specs.Prelude.{All, IsFalse, Result, Ok, Err, ◌==◌}
use Rattle.std.proofs.lemmas.Bool.{eqb-true, cases_eq, cases_lt, cases_Bool}
use Rattle.std.proofs.lemmas.List.{append_assoc, length-append, take_all, take_at, take-take, length-take}
use Rattle.std.proofs.lemmas.List.Elements.{All-nil, All-cons, All-push, All-head, All-tail}
use Rattle.httparse.specs.Grammar.{RequestHead}
use Rattle.http_read.specs.declared.request.Limits.{Limits}
use Rattle.http_read.specs.declared.head.HeadAnswer.{HeadAnswer}
use Rattle.http_read.specs.declared.head.HeadAnswer.TheVariants as answer
use Rattle.http_read.specs.RequestParts.{RequestParts}
use Rattle.http_read.specs.HeadLines.{IsHeadLine, print_lines, line_len, IsEmptyLine, IsFilledLine, AreHeadLines, BreaksLineLimit, IsUnended, IsHeadText}
use Rattle.http_read.specs.FieldLimit.{has_long_field}
use Rattle.http_read.specs.Versions.{names_other_major, text_as_read}
use Rattle.http_read.specs.Head.{head_window, IsHead, head_says, EndsAt, HeadIs}
use Rattle.http_read.specs.TextsInside.{TextIs}
use Rattle.http_read.proofs.HeadLineLemmas.{print_lines-append}
use Rattle.http_read.proofs.VersionLemmas.{same_lines_of, SaysAt}
use Rattle.http_read.proofs.WindowLemmas.{says_head}
use Rattle.http_read.proofs.DecisionLemmas.{HeadOrNone, head_or_none}

-- ## The lines of bytes

-- the bytes are whole lines, and behind them one that isn't
record SplitLines (bytes : List ℕ) : Type 0 where
  lines : List (List ℕ)
  last : List ℕ
  each : All IsHeadLine lines
  last_line : IsHeadLine last
  bytes_are : bytes ≡ print_lines lines ++ last

no_bytes : IsHeadLine []
no_bytes = All-nil (λ c. IsFalse (c == 10))

split_lines : (bytes : List ℕ) → SplitLines bytes
split_lines [] = record { lines = []; last = []; each = All-nil IsHeadLine; last_line = no_bytes; bytes_are = refl }
split_lines (b ∷ bytes) = by_feed (cases_Bool (b == 10)) (split_lines bytes)
  where
    onto : (b == 10) ≡ false → (lines : List (List ℕ)) (last : List ℕ) → All IsHeadLine lines → IsHeadLine last → bytes ≡ print_lines lines ++ last → SplitLines (b ∷ bytes)
    onto no_feed [] last each last_line e =
        record { lines = []; last = b ∷ last; each = each; last_line = All-cons (λ c. IsFalse (c == 10)) b last no_feed last_line; bytes_are = ap (λ t. b ∷ t) e }
    onto no_feed (line ∷ lines) last each last_line e = record {
      lines = (b ∷ line) ∷ lines;
      last = last;
      each = All-cons IsHeadLine (b ∷ line) lines (All-cons (λ c. IsFalse (c == 10)) b line no_feed (All-head IsHeadLine line lines each)) (All-tail IsHeadLine line lines each);
      last_line = last_line;
      bytes_are = ap (λ t. b ∷ t) e;
    }

    by_feed : ((b == 10) ≡ true) ⊎ ((b == 10) ≡ false) → SplitLines bytes → SplitLines (b ∷ bytes)
    by_feed (inl feed) s = record {
      lines = [] ∷ s.lines;
      last = s.last;
      each = All-cons IsHeadLine [] s.lines no_bytes s.each;
      last_line = s.last_line;
      bytes_are = ap (λ c. c ∷ bytes) (eqb-true b 10 feed) ∙ ap (λ t. 10 ∷ t) s.bytes_are;
    }
    by_feed (inr no_feed) s = onto no_feed s.lines s.last s.each s.last_line s.bytes_are

-- ## What they are of a head

-- the lines of a head end behind some of the bytes
record EndsSomewhere (limits : Limits) (bytes : List ℕ) : Type 0 where
  n : ℕ
  fields : List (List ℕ)
  within : n ≤ length bytes
  text : IsHeadText limits (take n bytes) fields

abbrev Reading : Limits → List ℕ → Type 0
Reading limits bytes = BreaksLineLimit limits bytes ⊎ (IsUnended limits bytes ⊎ EndsSomewhere limits bytes)

-- one more line behind those that were read
one_more : (read : List (List ℕ)) (line : List ℕ) (lines : List (List ℕ)) (last : List ℕ)
    → print_lines (read ++ line ∷ []) ++ (print_lines lines ++ last) ≡ print_lines read ++ (print_lines (line ∷ lines) ++ last)
one_more read line lines last =
    ap (λ t. t ++ (print_lines lines ++ last)) (print_lines-append read (line ∷ []))
    ∙ append_assoc (print_lines read) (line ++ 10 ∷ []) (print_lines lines ++ last)
    ∙ ap (λ t. print_lines read ++ t)
    (append_assoc line (10 ∷ []) (print_lines lines ++ last) ∙ sym (append_assoc line (10 ∷ print_lines lines) last))

some_len : (line : List ℕ) → (line_len line ≡ 0 → ⊥) → 0 < line_len line
some_len line filled = omega arith

-- behind the first line
read_fields : (lines : List (List ℕ)) (limits : Limits) (read fields : List (List ℕ)) (last : List ℕ) → AreHeadLines limits read fields → All IsHeadLine lines → IsHeadLine last
    → Reading limits (print_lines read ++ (print_lines lines ++ last))
read_fields [] limits read fields last h each last_line =
    inr (inl (inr (record { lines = read; fields = fields; front = last; head_lines = h; front_line = last_line; bytes_are = refl })))
read_fields (line ∷ lines) limits read fields last h each last_line = by_len (read_fields lines limits) (cases_eq (line_len line) 0)
  where
    by_len : ((more names : List (List ℕ)) (end : List ℕ) → AreHeadLines limits more names → All IsHeadLine lines → IsHeadLine end → Reading limits (print_lines more ++ (print_lines lines ++ end)))
        → (line_len line ≡ 0) ⊎ (line_len line ≡ 0 → ⊥) → Reading limits (print_lines read ++ (print_lines (line ∷ lines) ++ last))
    by_len further (inl empty) =
        let text : List ℕ = print_lines read ++ (line ++ 10 ∷ []) in
        let behind : List ℕ = print_lines lines ++ last in
        let split : print_lines read ++ (print_lines (line ∷ lines) ++ last) ≡ text ++ behind =
        ap (λ t. print_lines read ++ t) (append_assoc line (10 ∷ print_lines lines) last ∙ sym (append_assoc line (10 ∷ []) behind))
        ∙ sym (append_assoc (print_lines read) (line ++ 10 ∷ []) behind) in
        let front : take (length text) (print_lines read ++ (print_lines (line ∷ lines) ++ last)) ≡ text =
        ap (take (length text)) split ∙ take_at text behind (length text) refl in
        inr (inr (record {
          n = length text;
          fields = fields;
          within = omega (arith, ap length split, length-append text behind);
          text = record {
            lines = read;
            end = line;
            head_lines = h;
            end_line = record { is_line = All-head IsHeadLine line lines each; empty = empty };
            text_is = front;
          };
        }))
    by_len further (inr filled) =
        let more : AreHeadLines limits (read ++ line ∷ []) (fields ++ line ∷ []) = record {
          blank = h.blank;
          first = h.first;
          blank_lines = h.blank_lines;
          first_line = h.first_line;
          first_fits = h.first_fits;
          field_lines = All-push IsFilledLine fields line h.field_lines (record { is_line = All-head IsHeadLine line lines each; filled = some_len line filled });
          lines_are = ap (λ ls. ls ++ line ∷ []) h.lines_are ∙ append_assoc h.blank (h.first ∷ fields) (line ∷ []);
        } in
        subst (Reading limits) (one_more read line lines last)
        (further (read ++ line ∷ []) (fields ++ line ∷ []) last more (All-tail IsHeadLine line lines each) last_line)

-- before it
read_first : (lines : List (List ℕ)) (limits : Limits) (blank : List (List ℕ)) (last : List ℕ) → All IsEmptyLine blank → All IsHeadLine lines → IsHeadLine last
    → Reading limits (print_lines blank ++ (print_lines lines ++ last))
read_first [] limits blank last empty each last_line = by_limit (cases_lt (length last) (limits.line + 2))
  where
    by_limit : (length last < limits.line + 2) ⊎ (limits.line + 2 ≤ length last) → Reading limits (print_lines blank ++ last)
    by_limit (inl short) = inr (inl (inl (record { blank = blank; front = last; blank_lines = empty; front_line = last_line; short = short; bytes_are = refl })))
    by_limit (inr long) = inl (inr (record { blank = blank; front = last; blank_lines = empty; front_line = last_line; long = long; bytes_are = refl }))
read_first (line ∷ lines) limits blank last empty each last_line = by_len (read_first lines limits) (cases_eq (line_len line) 0)
  where
    is_line : IsHeadLine line
    is_line = All-head IsHeadLine line lines each

    by_limit : 0 < line_len line → (limits.line < line_len line) ⊎ (line_len line ≤ limits.line) → Reading limits (print_lines blank ++ (print_lines (line ∷ lines) ++ last))
    by_limit some (inl long) = inl (inl (record {
      blank = blank;
      first = line;
      behind = print_lines lines ++ last;
      blank_lines = empty;
      first_line = is_line;
      long = long;
      bytes_are = ap (λ t. print_lines blank ++ t) (append_assoc line (10 ∷ print_lines lines) last);
    }))
    by_limit some (inr fits) =
        let head : AreHeadLines limits (blank ++ line ∷ []) [] = record {
          blank = blank;
          first = line;
          blank_lines = empty;
          first_line = record { is_line = is_line; filled = some };
          first_fits = fits;
          field_lines = All-nil IsFilledLine;
          lines_are = refl;
        } in
        subst (Reading limits) (one_more blank line lines last)
        (read_fields lines limits (blank ++ line ∷ []) [] last head (All-tail IsHeadLine line lines each) last_line)

    by_len : ((more : List (List ℕ)) (end : List ℕ) → All IsEmptyLine more → All IsHeadLine lines → IsHeadLine end → Reading limits (print_lines more ++ (print_lines lines ++ end)))
        → (line_len line ≡ 0) ⊎ (line_len line ≡ 0 → ⊥) → Reading limits (print_lines blank ++ (print_lines (line ∷ lines) ++ last))
    by_len further (inl none) =
        subst (Reading limits) (one_more blank line lines last)
        (further (blank ++ line ∷ []) last (All-push IsEmptyLine blank line empty (record { is_line = is_line; empty = none })) (All-tail IsHeadLine line lines each) last_line)
    by_len further (inr filled) = by_limit (some_len line filled) (cases_lt limits.line (line_len line))

reading_of : (limits : Limits) (bytes : List ℕ) → Reading limits bytes
reading_of limits bytes =
    let s = split_lines bytes in
    subst (Reading limits) (sym s.bytes_are) (read_first s.lines limits [] s.last (All-nil IsEmptyLine) s.each s.last_line)

-- ## Some answer

-- an answer of the bytes that isn't want of memory
pub record SomeAnswer (limits : Limits) (bytes : List ℕ) : Type 0 where
  pub given : HeadAnswer
  pub is : HeadIs limits bytes given
  pub known : given ≢ answer.NoMemory

-- what a text says
text_answer : (most : ℕ) (long : Bool) (text : List ℕ) → (given : HeadAnswer) × TextIs most long text given × (given ≢ answer.NoMemory)
text_answer most long text = by_head (head_or_none most text)
  where
    by_said : (head : RequestHead) → IsHead most text head → (said : Result RequestParts ℕ) → head_says long head ≡ said → (given : HeadAnswer) × TextIs most long text given × (given ≢ answer.NoMemory)
    by_said head is (Ok request) says = (answer.Whole request (length text), (record { head = head; is_head = is; says = says }, refl), λ e. cc)
    by_said head is (Err code) says = (answer.Refused code, inr (record { head = head; is_head = is; says = says }), λ e. cc)

    by_head : HeadOrNone most text → (given : HeadAnswer) × TextIs most long text given × (given ≢ answer.NoMemory)
    by_head (inl (head, is)) = by_said head is (head_says long head) refl
    by_head (inr none) = (answer.Refused 400, inl (none, refl), λ e. cc)

end_answer : (limits : Limits) (bytes : List ℕ) (n : ℕ) (fields : List (List ℕ)) → EndsAt limits bytes n fields → SomeAnswer limits bytes
end_answer limits bytes n fields ends = by_major (cases_Bool (names_other_major ends.text.head_lines.first))
  where
    said : (given : HeadAnswer) → SaysAt limits (take n bytes) fields ends.text limits.fields (has_long_field limits fields) given → given ≢ answer.NoMemory → SomeAnswer limits bytes
    said given says known = record { given = given; is = says_head limits bytes n fields ends given says; known = known }

    by_major : (names_other_major ends.text.head_lines.first ≡ true) ⊎ (names_other_major ends.text.head_lines.first ≡ false) → SomeAnswer limits bytes
    by_major (inl other) = said (answer.Refused 505) (inl (other, refl)) (λ e. cc)
    by_major (inr one) =
        let text = text_answer limits.fields (has_long_field limits fields) (text_as_read ends.text) in
        said text.0 (inr (one, text.1)) text.2

too_large : (limits : Limits) (bytes : List ℕ) → 65537 ≤ length bytes → IsUnended limits (head_window bytes) ⊎ ((fields : List (List ℕ)) × IsHeadText limits (head_window bytes) fields) → SomeAnswer limits bytes
too_large limits bytes some unended = record { given = answer.Refused 400; is = inr (inl (record { some = some; unended = unended }, refl)); known = λ e. cc }

pub some_answer : (limits : Limits) (bytes : List ℕ) → SomeAnswer limits bytes
some_answer limits bytes = by_reading (reading_of limits (head_window bytes))
  where
    by_size : IsUnended limits (head_window bytes) → (65536 < length bytes) ⊎ (length bytes ≤ 65536) → SomeAnswer limits bytes
    by_size unended (inl large) = too_large limits bytes large (inl unended)
    by_size unended (inr small) =
        let whole : head_window bytes ≡ bytes = take_all 65537 bytes (omega (arith, small)) in
        record { given = answer.More; is = record { small = small; unended = subst (IsUnended limits) whole unended }; known = λ e. cc }

    by_end : (h : EndsSomewhere limits (head_window bytes)) → (65536 < h.n) ⊎ (h.n ≤ 65536) → SomeAnswer limits bytes
    by_end h (inl beyond) =
        let size = length-take 65537 bytes in
        too_large limits bytes (omega (arith, beyond, h.within, size))
        (inr (h.fields, same_lines_of (take_all h.n (head_window bytes) (omega (arith, beyond, h.within, size))) h.text))
    by_end h (inr fits) =
        end_answer limits bytes h.n h.fields (record {
          within = omega (arith, h.within, length-take 65537 bytes);
          fits = fits;
          text = same_lines_of (take-take h.n 65537 bytes (omega (arith, fits))) h.text;
        })

    by_reading : Reading limits (head_window bytes) → SomeAnswer limits bytes
    by_reading (inl long) = record { given = answer.Refused 414; is = inl (long, refl); known = λ e. cc }
    by_reading (inr (inl unended)) = by_size unended (cases_lt 65536 (length bytes))
    by_reading (inr (inr h)) = by_end h (cases_lt 65536 h.n)
