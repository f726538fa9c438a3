-- What the first 65,537 bytes say of a head.
use Rattle.std.proofs.Common.{◌≡◌, ℕ, ◌+◌, ◌-◌, ◌≤◌, min, inl, inr, Bool, true, false, cond, List, length, take, refl, sym, ap, ◌∙◌, subst, arith}
use Rattle.std.proofs.lemmas.List.{take_min, take-take, length-take, length-take-le}
use Rattle.http_read.specs.declared.request.Limits.{Limits}
use Rattle.http_read.specs.declared.head.HeadAnswer.{HeadAnswer}
use Rattle.http_read.specs.declared.head.HeadAnswer.TheVariants as answer
use Rattle.http_read.specs.declared.head_reader.Extent.{Extent}
use Rattle.http_read.specs.declared.head_reader.Extent.TheVariants as extent
use Rattle.http_read.specs.declared.head_reader.HeadReader.{HeadReader}
use Rattle.http_read.specs.declared.head_reader.Noted.{Noted}
use Rattle.http_read.specs.declared.version.Version.TheVariants as version
use Rattle.http_read.specs.HeadLines.{line_len}
use Rattle.http_read.specs.FieldLimit.{has_long_field}
use Rattle.http_read.specs.Versions.{names_other_major, names_later_minor}
use Rattle.http_read.specs.LookedAt.{HasLookedAt, version_at}
use Rattle.http_read.specs.Head.{head_window, EndsAt, IsTooLarge, IsRefusal, HeadIs}
use Rattle.http_read.specs.TextsInside.{IsWithinText, ReadsBy, ReadsText}
use Rattle.http_read.specs.ExtentsInside.{EndsIn, IsFullWindow, LooksForEnd}
use Rattle.http_read.proofs.VersionLemmas.{same_lines_of, before_first_line, length_as_read, digit_within, SaysAt, says_from_reads}

pub window_is : (bytes : List ℕ) (m : ℕ) → m ≡ min (length bytes) 65537 → take m bytes ≡ head_window bytes
window_is bytes m e =
    let turned : m ≡ min 65537 (length bytes) = omega arith in
    ap (λ k. take k bytes) turned ∙ take_min 65537 bytes

-- what a reader with these limits found
pub window_says : (limits other : Limits) (bytes : List ℕ) (m : ℕ) (given : Extent) → other ≡ limits → m ≡ min (length bytes) 65537 → LooksForEnd other (take m bytes) given → LooksForEnd limits (head_window bytes) given
window_says limits other bytes m given e is h =
    subst (λ l. LooksForEnd l (head_window bytes) given) e (subst (λ w. LooksForEnd other w given) (window_is bytes m is) h)

pub long_line_says : (limits other : Limits) (bytes : List ℕ) (m : ℕ) → other ≡ limits → m ≡ min (length bytes) 65537 → LooksForEnd other (take m bytes) extent.LongLine → IsRefusal limits bytes 414
long_line_says limits other bytes m e is h = inl (window_says limits other bytes m extent.LongLine e is h, refl)

pub too_large_says : (limits other : Limits) (bytes : List ℕ) (m : ℕ) → other ≡ limits → m ≡ min (length bytes) 65537 → LooksForEnd other (take m bytes) extent.TooLarge → IsRefusal limits bytes 400
too_large_says limits other bytes m e is h =
    let full : IsFullWindow limits (head_window bytes) = window_says limits other bytes m extent.TooLarge e is h in
    let large : IsTooLarge limits bytes = record { some = omega (arith, full.some, length-take 65537 bytes); unended = full.unended } in
    inr (inl (large, refl))

abbrev ends_at : (limits : Limits) (bytes : List ℕ) (n : ℕ) (noted : Noted) (h : EndsIn limits (head_window bytes) n noted) → EndsAt limits bytes n h.fields
ends_at limits bytes n noted h = record {
  within = omega (arith, h.within, length-take 65537 bytes);
  fits = h.fits;
  text = same_lines_of (take-take n 65537 bytes (omega (arith, h.fits))) h.text;
}

-- what a head of these lines says
pub says_head : (limits : Limits) (bytes : List ℕ) (n : ℕ) (fields : List (List ℕ)) (ends : EndsAt limits bytes n fields) (given : HeadAnswer) → SaysAt limits (take n bytes) fields ends.text limits.fields (has_long_field limits fields) given → HeadIs limits bytes given
says_head limits bytes n fields ends (answer.Whole request m) (inl other) = absurd (let e = other.1 in cc)
says_head limits bytes n fields ends (answer.Whole request m) (inr one) =
    let size : n ≡ m = sym (one.1.1 ∙ length_as_read limits (take n bytes) fields ends.text ∙ length-take-le n bytes ends.within) in
    subst (λ k. HeadIs limits bytes (answer.Whole request k)) size (record {
      field_lines = fields;
      head = one.1.0.head;
      ends = ends;
      is_one = one.0;
      is_head = one.1.0.is_head;
      says = one.1.0.says;
    })
says_head limits bytes n fields ends answer.More (inl other) = absurd (let e = other.1 in cc)
says_head limits bytes n fields ends answer.More (inr one) = absurd one.1
says_head limits bytes n fields ends (answer.Refused code) (inl other) =
    let is : code ≡ 505 = let e = other.1 in cc in
    inr (inr (inl (record { size = n; field_lines = fields; ends = ends; is_other = other.0 }, is)))
says_head limits bytes n fields ends (answer.Refused code) (inr (one, inl none)) =
    inr (inr (inr (inl (record { size = n; field_lines = fields; ends = ends; is_one = one; no_head = none.0 }, none.1))))
says_head limits bytes n fields ends (answer.Refused code) (inr (one, inr said)) = inr (inr (inr (inr (record {
  size = n;
  field_lines = fields;
  head = said.head;
  ends = ends;
  is_one = one;
  is_head = said.is_head;
  says = said.says;
}))))
says_head limits bytes n fields ends answer.NoMemory says = tt

text_says : (limits : Limits) (bytes : List ℕ) (n : ℕ) (noted : Noted) (h : EndsIn limits (head_window bytes) n noted) → (given : HeadAnswer) → ReadsText limits.fields noted (take n bytes) given → HeadIs limits bytes given
text_says limits bytes n noted h given reads =
    let ends = ends_at limits bytes n noted h in
    let seen : ReadsBy limits.fields (has_long_field limits h.fields) noted.version (take n bytes) given =
    subst (λ long. ReadsBy limits.fields long noted.version (take n bytes) given) h.long_is reads in
    let read : ReadsBy limits.fields (has_long_field limits h.fields) (version_at (before_first_line h.text) h.text.head_lines.first) (take n bytes) given =
    subst (λ v. ReadsBy limits.fields (has_long_field limits h.fields) v (take n bytes) given) h.version_is seen in
    says_head limits bytes n h.fields ends given
    (says_from_reads limits (take n bytes) h.fields ends.text limits.fields (has_long_field limits h.fields) given read)

pub end_says : (limits other : Limits) (bytes : List ℕ) (m n : ℕ) (noted : Noted) (given : HeadAnswer) → other ≡ limits → m ≡ min (length bytes) 65537 → LooksForEnd other (take m bytes) (extent.Ends n noted) → ReadsText other.fields noted (take n bytes) given → HeadIs limits bytes given
end_says limits other bytes m n noted given e is h t =
    let ends : EndsIn limits (head_window bytes) n noted = window_says limits other bytes m (extent.Ends n noted) e is h in
    text_says limits bytes n noted ends given (subst (λ l. ReadsText l.fields noted (take n bytes) given) e t)

-- the digit that is read as 1 stands in the text
version_within : (limits : Limits) (window : List ℕ) (n : ℕ) (noted : Noted) → EndsIn limits window n noted → IsWithinText noted.version (take n window)
version_within limits window n noted h =
    subst (λ v. IsWithinText v (take n window)) (sym h.version_is) (by_version (names_other_major h.text.head_lines.first) (names_later_minor h.text.head_lines.first))
  where
    by_version : (other later : Bool) → IsWithinText (cond other version.Other (cond later (version.Later (before_first_line h.text + (line_len h.text.head_lines.first - 1))) version.Written)) (take n window)
    by_version true later = tt
    by_version false true = digit_within limits (take n window) h.fields h.text
    by_version false false = tt

pub end_within : (limits : Limits) (bytes : List ℕ) (m n : ℕ) (noted : Noted) → LooksForEnd limits (take m bytes) (extent.Ends n noted) → IsWithinText noted.version (take n bytes)
end_within limits bytes m n noted h =
    subst (IsWithinText noted.version) (take-take n m bytes (omega (arith, h.within, length-take m bytes))) (version_within limits (take m bytes) n noted h)

-- what was looked at in the window was looked at in the bytes
pub looked_in : (bytes : List ℕ) (m : ℕ) (r : HeadReader) → r.looked ≤ length (take m bytes) → HasLookedAt (take r.looked (take m bytes)) r → HasLookedAt (take r.looked bytes) r
looked_in bytes m r within h = subst (λ (t : List ℕ). HasLookedAt t r) (take-take r.looked m bytes (omega (arith, within, length-take m bytes))) h

pub within_bytes : (bytes : List ℕ) (m n : ℕ) → n ≤ length (take m bytes) → n ≤ length bytes
within_bytes bytes m n within = omega (arith, within, length-take m bytes)
