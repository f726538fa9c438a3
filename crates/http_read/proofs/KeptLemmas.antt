-- What is refused stays refused, whatever follows.
use Rattle.std.proofs.Common.{◌≡◌, ℕ, zero, suc, ◌+◌, ◌-◌, ◌≤◌, ◌⊎◌, inl, inr, Bool, true, false, cond, List, [], ◌∷◌, ◌++◌, length, get_or, take, refl, sym, ap, ◌∙◌, subst, arith}
use Rattle.std.specs.Prelude.{IsFalse, ◌==◌}
use Rattle.std.proofs.lemmas.Bool.{eqb-true}
use Rattle.std.proofs.lemmas.List.{append_assoc, length-append, take-append-le}
use Rattle.std.proofs.lemmas.List.Elements.{All-nil, All-cons, All-append}
use Rattle.http_read.specs.declared.request.Limits.{Limits}
use Rattle.http_read.specs.RequestParts.{RequestParts}
use Rattle.http_read.specs.HeadLines.{IsHeadLine, print_lines, line_len, HasLongFront, BreaksLineLimit, IsUnended, IsHeadText}
use Rattle.http_read.specs.Versions.{text_as_read}
use Rattle.http_read.specs.Head.{head_window, EndsAt, BeginsHead, IsRefusal}
use Rattle.http_read.proofs.VersionLemmas.{same_lines_of}

-- ## The first bytes of a longer list

take_of_append : (n : ℕ) (xs ys : List ℕ) → take n (xs ++ ys) ≡ take n xs ++ take (n - length xs) ys
take_of_append zero [] ys = refl
take_of_append (suc n) [] ys = let e : suc n ≡ suc n - 0 = omega arith in ap (λ k. take k ys) e
take_of_append zero (x ∷ xs) ys = let e : 0 ≡ 0 - length (x ∷ xs) = omega arith in ap (λ k. take k ys) e
take_of_append (suc n) (x ∷ xs) ys =
    let e : n - length xs ≡ suc n - length (x ∷ xs) = omega arith in
    ap (λ t. x ∷ t) (take_of_append n xs ys ∙ ap (λ k. take n xs ++ take k ys) e)

-- ## The first line feed of bytes, where there is one

abbrev FeedIn : List ℕ → Type 0
FeedIn bytes = (line : List ℕ) × (behind : List ℕ) × IsHeadLine line × (bytes ≡ line ++ 10 ∷ behind)

feed_here : (b : ℕ) (bytes : List ℕ) (t : Bool) → (b == 10) ≡ t → IsHeadLine bytes ⊎ FeedIn bytes → IsHeadLine (b ∷ bytes) ⊎ FeedIn (b ∷ bytes)
feed_here b bytes true e later = inr ([], bytes, All-nil (λ c. IsFalse (c == 10)), ap (λ c. c ∷ bytes) (eqb-true b 10 e))
feed_here b bytes false e (inl is) = inl (All-cons (λ c. IsFalse (c == 10)) b bytes e is)
feed_here b bytes false e (inr feed) =
    inr (b ∷ feed.0, feed.1, All-cons (λ c. IsFalse (c == 10)) b feed.0 e feed.2, ap (λ t. b ∷ t) feed.3)

feed_in : (bytes : List ℕ) → IsHeadLine bytes ⊎ FeedIn bytes
feed_in [] = inl (All-nil (λ c. IsFalse (c == 10)))
feed_in (b ∷ bytes) = feed_here b bytes (b == 10) refl (feed_in bytes)

-- ## A first line that is too long

text_at_least : (n : ℕ) (t : Bool) → n ≤ cond t (n - 1) n + 1
text_at_least n true = omega arith
text_at_least n false = omega arith

line_len_low : (line : List ℕ) → length line ≤ line_len line + 1
line_len_low line = text_at_least (length line) (get_or line (length line - 1) 0 == 13)

front_kept : (limits : Limits) (bytes more : List ℕ) → HasLongFront limits bytes → IsHeadLine more ⊎ FeedIn more → BreaksLineLimit limits (bytes ++ more)
front_kept limits bytes more h (inl is) = inr (record {
  blank = h.blank;
  front = h.front ++ more;
  blank_lines = h.blank_lines;
  front_line = All-append (λ c. IsFalse (c == 10)) h.front more h.front_line is;
  long = omega (arith, h.long, length-append h.front more);
  bytes_are = ap (λ t. t ++ more) h.bytes_are ∙ append_assoc (print_lines h.blank) h.front more;
})
front_kept limits bytes more h (inr feed) =
    let first : List ℕ = h.front ++ feed.0 in
    inl (record {
      blank = h.blank;
      first = first;
      behind = feed.1;
      blank_lines = h.blank_lines;
      first_line = All-append (λ c. IsFalse (c == 10)) h.front feed.0 h.front_line feed.2;
      long = omega (arith, h.long, length-append h.front feed.0, line_len_low first);
      bytes_are =
          ap (λ t. t ++ more) h.bytes_are
          ∙ append_assoc (print_lines h.blank) h.front more
          ∙ ap (λ t. print_lines h.blank ++ t) (ap (λ t. h.front ++ t) feed.3 ∙ sym (append_assoc h.front feed.0 (10 ∷ feed.1)));
    })

long_kept : (limits : Limits) (bytes more : List ℕ) → BreaksLineLimit limits bytes → BreaksLineLimit limits (bytes ++ more)
long_kept limits bytes more (inl h) = inl (record {
  blank = h.blank;
  first = h.first;
  behind = h.behind ++ more;
  blank_lines = h.blank_lines;
  first_line = h.first_line;
  long = h.long;
  bytes_are =
      ap (λ t. t ++ more) h.bytes_are
      ∙ append_assoc (print_lines h.blank) (h.first ++ 10 ∷ h.behind) more
      ∙ ap (λ t. print_lines h.blank ++ t) (append_assoc h.first (10 ∷ h.behind) more);
})
long_kept limits bytes more (inr h) = front_kept limits bytes more h (feed_in more)

abbrev ends_kept : (limits : Limits) (bytes more : List ℕ) (n : ℕ) (fields : List (List ℕ)) → EndsAt limits bytes n fields → EndsAt limits (bytes ++ more) n fields
ends_kept limits bytes more n fields h = record {
  within = omega (arith, h.within, length-append bytes more);
  fits = h.fits;
  text = same_lines_of (sym (take-append-le n bytes more h.within)) h.text;
}

pub refusal_kept : (limits : Limits) (bytes more : List ℕ) (code : ℕ) → IsRefusal limits bytes code → IsRefusal limits (bytes ++ more) code
unfolding text_as_read
refusal_kept limits bytes more code (inl h) =
    inl (subst (BreaksLineLimit limits) (sym (take_of_append 65537 bytes more)) (long_kept limits (head_window bytes) (take (65537 - length bytes) more) h.0), h.1)
refusal_kept limits bytes more code (inr (inl h)) =
    let same : head_window bytes ≡ head_window (bytes ++ more) = sym (take-append-le 65537 bytes more h.0.some) in
    inr (inl (
      record {
        some = omega (arith, h.0.some, length-append bytes more);
        unended = subst (λ w. IsUnended limits w ⊎ ((fields : List (List ℕ)) × IsHeadText limits w fields)) same h.0.unended;
      },
      h.1,
    ))
refusal_kept limits bytes more code (inr (inr (inl h))) = inr (inr (inl (
  record {
    size = h.0.size;
    field_lines = h.0.field_lines;
    ends = ends_kept limits bytes more h.0.size h.0.field_lines h.0.ends;
    is_other = h.0.is_other;
  },
  h.1,
)))
refusal_kept limits bytes more code (inr (inr (inr (inl h)))) = inr (inr (inr (inl (
  record {
    size = h.0.size;
    field_lines = h.0.field_lines;
    ends = ends_kept limits bytes more h.0.size h.0.field_lines h.0.ends;
    is_one = h.0.is_one;
    no_head = h.0.no_head;
  },
  h.1,
))))
refusal_kept limits bytes more code (inr (inr (inr (inr h)))) = inr (inr (inr (inr (record {
  size = h.size;
  field_lines = h.field_lines;
  head = h.head;
  ends = ends_kept limits bytes more h.size h.field_lines h.ends;
  is_one = h.is_one;
  is_head = h.is_head;
  says = h.says;
}))))

pub head_kept : (limits : Limits) (bytes more : List ℕ) (request : RequestParts) (n : ℕ) → BeginsHead limits bytes request n → BeginsHead limits (bytes ++ more) request n
unfolding text_as_read
head_kept limits bytes more request n h = record {
  field_lines = h.field_lines;
  head = h.head;
  ends = ends_kept limits bytes more n h.field_lines h.ends;
  is_one = h.is_one;
  is_head = h.is_head;
  says = h.says;
}
