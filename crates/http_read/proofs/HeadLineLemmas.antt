-- What a reader of heads finds, line by line.
use Rattle.std.proofs.Common.{◌≡◌, ℕ, ◌+◌, ◌-◌, ◌<◌, ◌≤◌, inl, inr, Bool, true, false, ◌||◌, List, [], ◌∷◌, ◌++◌, length, take, drop, refl, sym, ap, ◌∙◌, subst, arith}
use Rattle.std.specs.Prelude.{IsFalse, ◌==◌, nat_lt, slice_range}
use Rattle.std.proofs.lemmas.List.{append-nil, append_assoc, take-append-drop, take_at, drop_at, take_all, length-append, length-take-le}
use Rattle.std.proofs.lemmas.List.Elements.{All-nil, All-push, All-append}
use Rattle.std.proofs.lemmas.List.Folds.{list_any-append}
use Rattle.http_read.specs.declared.request.Limits.{Limits}
use Rattle.http_read.specs.declared.head_reader.HeadReader.{HeadReader}
use Rattle.http_read.specs.declared.head_reader.Noted.{Noted}
use Rattle.http_read.specs.declared.head_reader.Extent.{Extent}
use Rattle.http_read.specs.declared.head_reader.Extent.TheVariants as extent
use Rattle.http_read.specs.declared.head_reader.Added.TheVariants as added
use Rattle.http_read.specs.HeadLines.{IsHeadLine, print_lines, line_len, IsEmptyLine, IsFilledLine, BreaksLineLimit, IsUnended, IsHeadText}
use Rattle.http_read.specs.FieldLimit.{has_long_field}
use Rattle.http_read.specs.LookedAt.{version_at, HasBegun, HasNotBegun, IsStage, HasLookedAt}
use Rattle.http_read.specs.ExtentsInside.{EndsIn, IsFullWindow, LooksForEnd, AddsLine, SaysUnended, FeedStands}

pub print_lines-append : (a b : List (List ℕ)) → print_lines (a ++ b) ≡ print_lines a ++ print_lines b
print_lines-append [] b = refl
print_lines-append (l ∷ a) b = ap (λ x. l ++ 10 ∷ x) (print_lines-append a b) ∙ sym (append_assoc l (10 ∷ print_lines a) (print_lines b))

-- ## One more line

goes_blank : (limits : Limits) (lines : List (List ℕ)) (line : List ℕ) (b : Bool) (noted : Noted) → b ≡ false → IsStage limits lines b noted → IsHeadLine line → line_len line ≡ 0 → IsStage limits (lines ++ line ∷ []) b noted
goes_blank limits lines line b noted e h is none =
    let was : HasNotBegun lines noted = subst (λ t. IsStage limits lines t noted) e h in
    subst (λ t. IsStage limits (lines ++ line ∷ []) t noted) (sym e)
    (record { blank_lines = All-push IsEmptyLine lines line was.blank_lines (record { is_line = is; empty = none }); long_is = was.long_is })

goes_field : (limits : Limits) (lines : List (List ℕ)) (line : List ℕ) (b : Bool) (noted : Noted) → b ≡ true → IsStage limits lines b noted → IsHeadLine line → 0 < line_len line → IsStage limits (lines ++ line ∷ []) b (record noted { long = noted.long || nat_lt limits.field (line_len line) })
goes_field limits lines line b noted e h is some =
    let was : HasBegun limits lines noted = subst (λ t. IsStage limits lines t noted) e h in
    let old = was.head_lines in
    let longer : Noted = record noted { long = noted.long || nat_lt limits.field (line_len line) } in
    let new : HasBegun limits (lines ++ line ∷ []) longer = record {
      fields = was.fields ++ line ∷ [];
      head_lines = record {
        blank = old.blank;
        first = old.first;
        blank_lines = old.blank_lines;
        first_line = old.first_line;
        first_fits = old.first_fits;
        field_lines = All-push IsFilledLine was.fields line old.field_lines (record { is_line = is; filled = some });
        lines_are = ap (λ x. x ++ line ∷ []) old.lines_are ∙ append_assoc old.blank (old.first ∷ was.fields) (line ∷ []);
      };
      long_is = long_more limits was.fields line noted.long was.long_is;
      version_is = was.version_is;
    } in
    subst (λ t. IsStage limits (lines ++ line ∷ []) t longer) (sym e) new
  where
    or_false : (t : Bool) → t ≡ (t || false)
    or_false true = refl
    or_false false = refl

    long_more : (limits : Limits) (fields : List (List ℕ)) (line : List ℕ) (long : Bool) → long ≡ has_long_field limits fields → (long || nat_lt limits.field (line_len line)) ≡ has_long_field limits (fields ++ line ∷ [])
    long_more limits fields line long e =
        ap (λ t. t || nat_lt limits.field (line_len line)) e
        ∙ ap (λ t. has_long_field limits fields || t) (or_false (nat_lt limits.field (line_len line)))
        ∙ sym (list_any-append (λ l. nat_lt limits.field (line_len l)) fields (line ∷ []))

goes_first : (limits : Limits) (lines : List (List ℕ)) (line : List ℕ) (before : ℕ) (b : Bool) (noted : Noted) → before ≡ length (print_lines lines) → b ≡ false → IsStage limits lines b noted → IsHeadLine line → 0 < line_len line → line_len line ≤ limits.line → IsStage limits (lines ++ line ∷ []) true (record noted { version = version_at before line })
goes_first limits lines line before b noted at e h is some fits =
    let was : HasNotBegun lines noted = subst (λ t. IsStage limits lines t noted) e h in
    record {
      fields = [];
      head_lines = record {
        blank = lines;
        first = line;
        blank_lines = was.blank_lines;
        first_line = record { is_line = is; filled = some };
        first_fits = fits;
        field_lines = All-nil IsFilledLine;
        lines_are = refl;
      };
      long_is = was.long_is;
      version_is = ap (λ n. version_at n line) at;
    }

-- the stage of a reader behind a line that its head goes on with
stage_goes : (lines : List (List ℕ)) (line : List ℕ) (r new : HeadReader) → r.line ≡ length (print_lines lines) → IsStage r.limits lines r.begun r.noted → IsHeadLine line → AddsLine r line added.Goes new → IsStage new.limits (lines ++ line ∷ []) new.begun new.noted
stage_goes lines line r new at h is (inl same) =
    let stage = goes_blank r.limits lines line r.begun r.noted same.1 h is same.0 in
    subst (λ x. IsStage x.limits (lines ++ line ∷ []) x.begun x.noted) (sym same.2) stage
stage_goes lines line r new at h is (inr (inl field)) =
    let stage = goes_field r.limits lines line r.begun r.noted field.1 h is field.0 in
    subst (λ x. IsStage x.limits (lines ++ line ∷ []) x.begun x.noted) (sym field.2) stage
stage_goes lines line r new at h is (inr (inr first)) =
    let stage = goes_first r.limits lines line r.line r.begun r.noted at first.2 h is first.0 first.1 in
    subst (λ x. IsStage x.limits (lines ++ line ∷ []) x.begun x.noted) (sym first.3) stage

pub limits_stay : (r : HeadReader) (line : List ℕ) (new : HeadReader) → AddsLine r line added.Goes new → new.limits ≡ r.limits
limits_stay r line new (inl same) = ap (λ x. x.limits) same.2
limits_stay r line new (inr (inl field)) = ap (λ x. x.limits) field.2
limits_stay r line new (inr (inr first)) = ap (λ x. x.limits) first.3

-- ## The next line of a window

-- the line that ends at the k-th byte behind those that the reader has looked at
pub record NextLine (w : List ℕ) (r : HeadReader) (k : ℕ) (line : List ℕ) : Type 0 where
  lines : List (List ℕ)
  behind : List ℕ
  is_line : IsHeadLine line
  window_is : w ≡ print_lines lines ++ (line ++ 10 ∷ behind)
  line_at : r.line ≡ length (print_lines lines)
  end_at : r.looked + k ≡ length (print_lines lines) + length line
  stage : IsStage r.limits lines r.begun r.noted

pub next_line : (w : List ℕ) (r : HeadReader) (k : ℕ) → HasLookedAt (take r.looked w) r → r.looked ≤ length w → FeedStands (drop r.looked w) k → NextLine w r k (slice_range w r.line (r.looked + k))
next_line w r k h within feed =
    let lines = h.lines in
    let printed : List ℕ = print_lines lines in
    let rest : List ℕ = drop r.looked w in
    let mid : List ℕ = take k rest in
    let behind : List ℕ = drop (k + 1) rest in
    let line : List ℕ = h.front ++ mid in
    let whole : w ≡ printed ++ (line ++ 10 ∷ behind) =
    sym (take-append-drop r.looked w)
    ∙ ap (λ x. x ++ rest) h.seen_is
    ∙ append_assoc printed h.front rest
    ∙ ap (λ x. printed ++ (h.front ++ x)) feed.bytes_are
    ∙ ap (λ x. printed ++ x) (sym (append_assoc h.front mid (10 ∷ behind))) in
    let seen_len : length (take r.looked w) ≡ length printed + length h.front = ap length h.seen_is ∙ length-append printed h.front in
    let mid_len : length mid ≡ k = length-take-le k rest (omega (arith, feed.within)) in
    let line_len : length line ≡ length h.front + length mid = length-append h.front mid in
    let end_is : r.looked + k ≡ length printed + length line = omega (arith, h.looked_is) in
    let behind_line : drop r.line w ≡ line ++ 10 ∷ behind = ap (drop r.line) whole ∙ drop_at printed (line ++ 10 ∷ behind) r.line (sym h.line_is) in
    let line_is : slice_range w r.line (r.looked + k) ≡ line =
    ap (take (r.looked + k - r.line)) behind_line ∙ take_at line (10 ∷ behind) (r.looked + k - r.line) (omega (arith, h.line_is)) in
    subst (NextLine w r k) (sym line_is) (record {
      lines = lines;
      behind = behind;
      is_line = All-append (λ b. IsFalse (b == 10)) h.front mid h.front_line feed.line;
      window_is = whole;
      line_at = h.line_is;
      end_at = end_is;
      stage = h.stage;
    })

-- the window up to the end of that line
up_to : (w : List ℕ) (r : HeadReader) (k n : ℕ) (line : List ℕ) (h : NextLine w r k line) → n ≡ r.looked + k + 1 → take n w ≡ print_lines h.lines ++ (line ++ 10 ∷ [])
up_to w r k n line h e =
    let printed : List ℕ = print_lines h.lines in
    let ended : List ℕ = line ++ 10 ∷ [] in
    let split : w ≡ (printed ++ ended) ++ h.behind =
    h.window_is ∙ ap (λ x. printed ++ x) (sym (append_assoc line (10 ∷ []) h.behind)) ∙ sym (append_assoc printed ended h.behind) in
    let size : length (printed ++ ended) ≡ n = omega (arith, length-append printed ended, length-append line (10 ∷ []), h.end_at) in
    ap (take n) split ∙ take_at (printed ++ ended) h.behind n size

-- the head goes on behind the line
pub looked_on : (w : List ℕ) (r new : HeadReader) (k n : ℕ) (line : List ℕ) → NextLine w r k line → length w ≤ 65537 → n ≡ r.looked + k + 1 → n ≤ length w → AddsLine r line added.Goes new → HasLookedAt (take n w) (record new { line = n; looked = n })
looked_on w r new k n line h small e within adds =
    let stage = stage_goes h.lines line r new h.line_at h.stage h.is_line adds in
    let seen : take n w ≡ print_lines (h.lines ++ line ∷ []) =
    up_to w r k n line h e ∙ sym (print_lines-append h.lines (line ∷ [])) in
    let size : length (take n w) ≡ n = length-take-le n w within in
    record {
      lines = h.lines ++ line ∷ [];
      front = [];
      front_line = All-nil (λ b. IsFalse (b == 10));
      seen_is = seen ∙ sym (append-nil (print_lines (h.lines ++ line ∷ [])));
      line_is = sym size ∙ ap length seen;
      looked_is = sym size;
      small = omega arith;
      stage = stage;
    }

-- the line ends the head
head_text : (w : List ℕ) (r : HeadReader) (k n : ℕ) (line : List ℕ) → NextLine w r k line → n ≡ r.looked + k + 1 → line_len line ≡ 0 → r.begun ≡ true → (fields : List (List ℕ)) × (text : IsHeadText r.limits (take n w) fields) × (r.noted.long ≡ has_long_field r.limits fields) × (r.noted.version ≡ version_at (length (print_lines text.head_lines.blank)) text.head_lines.first)
head_text w r k n line h e none begun =
    let was : HasBegun r.limits h.lines r.noted = subst (λ t. IsStage r.limits h.lines t r.noted) begun h.stage in (
      was.fields,
      record {
        lines = h.lines;
        end = line;
        head_lines = was.head_lines;
        end_line = record { is_line = h.is_line; empty = none };
        text_is = up_to w r k n line h e;
      },
      was.long_is,
      was.version_is,
    )

pub head_ends : (w : List ℕ) (r : HeadReader) (k n : ℕ) (line : List ℕ) → NextLine w r k line → n ≡ r.looked + k + 1 → n ≤ length w → n ≤ 65536 → line_len line ≡ 0 → r.begun ≡ true → EndsIn r.limits w n r.noted
head_ends w r k n line h e within fits none begun =
    let text = head_text w r k n line h e none begun in
    record { fields = text.0; within = within; fits = fits; text = text.1; long_is = text.2; version_is = text.3 }

pub head_too_large : (w : List ℕ) (r : HeadReader) (k n : ℕ) (line : List ℕ) → NextLine w r k line → n ≡ r.looked + k + 1 → n ≤ length w → length w ≤ 65537 → 65537 ≤ n → line_len line ≡ 0 → r.begun ≡ true → IsFullWindow r.limits w
head_too_large w r k n line h e within small large none begun =
    let text = head_text w r k n line h e none begun in
    record {
      some = omega arith;
      unended = inr (text.0, subst (λ x. IsHeadText r.limits x text.0) (take_all n w (omega arith)) text.1);
    }

-- the line is a first line that is too long
pub line_too_long : (w : List ℕ) (r : HeadReader) (k : ℕ) (line : List ℕ) → NextLine w r k line → r.limits.line < line_len line → r.begun ≡ false → BreaksLineLimit r.limits w
line_too_long w r k line h long begun =
    let was : HasNotBegun h.lines r.noted = subst (λ t. IsStage r.limits h.lines t r.noted) begun h.stage in
    inl (record {
      blank = h.lines;
      first = line;
      behind = h.behind;
      blank_lines = was.blank_lines;
      first_line = h.is_line;
      long = long;
      bytes_are = h.window_is;
    })

-- ## A window without a further line feed

pub looked_to_end : (w : List ℕ) (r : HeadReader) → HasLookedAt (take r.looked w) r → r.looked ≤ length w → length w ≤ 65537 → IsHeadLine (drop r.looked w) → HasLookedAt w (record r { looked = length w })
looked_to_end w r h within small is = record {
  lines = h.lines;
  front = h.front ++ drop r.looked w;
  front_line = All-append (λ b. IsFalse (b == 10)) h.front (drop r.looked w) h.front_line is;
  seen_is =
      sym (take-append-drop r.looked w)
      ∙ ap (λ x. x ++ drop r.looked w) h.seen_is
      ∙ append_assoc (print_lines h.lines) h.front (drop r.looked w);
  line_is = h.line_is;
  looked_is = refl;
  small = small;
  stage = h.stage;
}

pub line_within : (w : List ℕ) (r : HeadReader) → HasLookedAt w r → r.line ≤ length w
line_within w r h = omega (arith, h.line_is, ap length h.seen_is, length-append (print_lines h.lines) h.front)

unended_by_stage : (limits : Limits) (lines : List (List ℕ)) (front w : List ℕ) (b : Bool) (noted : Noted) → IsStage limits lines b noted → IsHeadLine front → w ≡ print_lines lines ++ front → (b ≡ false → length front < limits.line + 2) → IsUnended limits w
unended_by_stage limits lines front w true noted h is e short = inr (record {
  lines = lines;
  fields = h.fields;
  front = front;
  head_lines = h.head_lines;
  front_line = is;
  bytes_are = e;
})
unended_by_stage limits lines front w false noted h is e short = inl (record {
  blank = lines;
  front = front;
  blank_lines = h.blank_lines;
  front_line = is;
  short = short refl;
  bytes_are = e;
})

front_len : (w : List ℕ) (r : HeadReader) (h : HasLookedAt w r) → length h.front ≡ length w - r.line
front_len w r h = omega (arith, h.line_is, ap length h.seen_is, length-append (print_lines h.lines) h.front)

unended_of : (w : List ℕ) (r : HeadReader) → HasLookedAt w r → (r.begun ≡ false → length w - r.line < r.limits.line + 2) → IsUnended r.limits w
unended_of w r h short =
    unended_by_stage r.limits h.lines h.front w r.begun r.noted h.stage h.front_line h.seen_is (λ e. omega (arith, short e, front_len w r h))

-- what is to be said of a window that was looked at to its end
pub says_unended : (w : List ℕ) (r : HeadReader) (given : Extent) → HasLookedAt w r → length w ≤ 65537 → SaysUnended r (length w) given → LooksForEnd r.limits w given
says_unended w r extent.LongLine h small says =
    let was : HasNotBegun h.lines r.noted = subst (λ t. IsStage r.limits h.lines t r.noted) says.0 h.stage in
    inr (record {
      blank = h.lines;
      front = h.front;
      blank_lines = was.blank_lines;
      front_line = h.front_line;
      long = omega (arith, says.1, front_len w r h);
      bytes_are = h.seen_is;
    })
says_unended w r extent.TooLarge h small says = record { some = omega (arith, says.0); unended = inl (unended_of w r h says.1) }
says_unended w r extent.Unended h small says = (says.0, unended_of w r h says.1)
says_unended w r (extent.Ends n long) h small says = absurd says
