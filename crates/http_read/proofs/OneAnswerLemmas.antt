-- Bytes have one answer as a head.
use Rattle.std.proofs.Common.{◌≡◌, ◌≢◌, ℕ, ◌≤◌, ◌⊎◌, inl, inr, Bool, List, [], ◌++◌, length, set, take, drop, refl, sym, ap, ◌∙◌, subst, arith}
use Rattle.std.specs.Prelude.{Result, Ok, Err}
use Rattle.std.proofs.lemmas.List.{append-nil, take-append-drop, take-take, take_all, length-take-le}
use Rattle.httparse.specs.Grammar.{RequestHead}
use Rattle.httparse.proofs.GrammarLemmas.{request_unique}
use Rattle.http_read.specs.declared.request.Limits.{Limits}
use Rattle.http_read.specs.declared.head.HeadAnswer.{HeadAnswer}
use Rattle.http_read.specs.declared.head.HeadAnswer.TheVariants as answer
use Rattle.http_read.specs.RequestParts.{RequestParts}
use Rattle.http_read.specs.HeadLines.{IsHeadText, IsUnended}
use Rattle.http_read.specs.FieldLimit.{has_long_field}
use Rattle.http_read.specs.Head.{head_window, IsHead, head_says, EndsAt, IsRefusal, HeadIs}
use Rattle.http_read.specs.declared.version.Version.{Version}
use Rattle.http_read.specs.declared.version.Version.TheVariants as version
use Rattle.http_read.specs.TextsInside.{IsSaidHead, TextIs, ReadsBy}
use Rattle.http_read.proofs.VersionLemmas.{length_as_read, SaysAt, reads_from_says, version_of, version_of_text}
use Rattle.http_read.proofs.ClassLemmas.{Class, Long, Unended, Ends, class_of, class_long, class_unended, class_ends}

-- what a reading of the bytes has answered
abbrev ClassSays : Limits → List ℕ → Class → HeadAnswer → Type 0
ClassSays limits bytes Long given = given ≡ answer.Refused 414
ClassSays limits bytes Unended given = ((length bytes ≤ 65536) × (given ≡ answer.More)) ⊎ ((65537 ≤ length bytes) × (given ≡ answer.Refused 400))
ClassSays limits bytes (Ends n fields) given =
    ((n ≤ 65536) × ReadsBy limits.fields (has_long_field limits fields) (version_of (take n bytes)) (take n bytes) given) ⊎ ((65537 ≤ n) × (given ≡ answer.Refused 400))

-- a head that ends in the window
class_at : (limits : Limits) (bytes : List ℕ) (n : ℕ) (fields : List (List ℕ)) → EndsAt limits bytes n fields → class_of limits (head_window bytes) ≡ Ends n fields
class_at limits bytes n fields h =
    let front : take n (head_window bytes) ≡ take n bytes = take-take n 65537 bytes (omega (arith, h.fits)) in
    let whole : head_window bytes ≡ take n bytes ++ drop n (head_window bytes) = sym (take-append-drop n (head_window bytes)) ∙ ap (λ x. x ++ drop n (head_window bytes)) front in
    ap (class_of limits) whole
    ∙ class_ends limits (take n bytes) (drop n (head_window bytes)) fields h.text
    ∙ ap (λ k. Ends k fields) (length-take-le n bytes h.within)

says_at_end : (limits : Limits) (bytes : List ℕ) (n : ℕ) (fields : List (List ℕ)) (given : HeadAnswer) (h : EndsAt limits bytes n fields) → SaysAt limits (take n bytes) fields h.text limits.fields (has_long_field limits fields) given → ClassSays limits bytes (class_of limits (head_window bytes)) given
says_at_end limits bytes n fields given h says =
    let long = has_long_field limits fields in
    let text = take n bytes in
    let reads = reads_from_says limits text fields h.text limits.fields long given says in
    subst (λ c. ClassSays limits bytes c given) (sym (class_at limits bytes n fields h))
    (inl (h.fits, subst (λ v. ReadsBy limits.fields long v text given) (sym (version_of_text limits text fields h.text)) reads))

too_large_says : (limits : Limits) (bytes : List ℕ) (code : ℕ) → 65537 ≤ length bytes → code ≡ 400 → IsUnended limits (head_window bytes) ⊎ ((fields : List (List ℕ)) × IsHeadText limits (head_window bytes) fields) → ClassSays limits bytes (class_of limits (head_window bytes)) (answer.Refused code)
too_large_says limits bytes code some is (inl h) =
    subst (λ c. ClassSays limits bytes c (answer.Refused code)) (sym (class_unended limits (head_window bytes) h)) (inr (some, ap answer.Refused is))
too_large_says limits bytes code some is (inr h) =
    let size : length (head_window bytes) ≡ 65537 = length-take-le 65537 bytes some in
    let ends : class_of limits (head_window bytes) ≡ Ends (length (head_window bytes)) h.0 =
    ap (class_of limits) (sym (append-nil (head_window bytes))) ∙ class_ends limits (head_window bytes) [] h.0 h.1 in
    subst (λ c. ClassSays limits bytes c (answer.Refused code)) (sym ends) (inr (omega (arith, size), ap answer.Refused is))

refusal_says : (limits : Limits) (bytes : List ℕ) (code : ℕ) → IsRefusal limits bytes code → ClassSays limits bytes (class_of limits (head_window bytes)) (answer.Refused code)
refusal_says limits bytes code (inl h) =
    subst (λ c. ClassSays limits bytes c (answer.Refused code)) (sym (class_long limits (head_window bytes) h.0)) (ap answer.Refused h.1)
refusal_says limits bytes code (inr (inl h)) = too_large_says limits bytes code h.0.some h.1 h.0.unended
refusal_says limits bytes code (inr (inr (inl h))) =
    says_at_end limits bytes h.0.size h.0.field_lines (answer.Refused code) h.0.ends (inl (h.0.is_other, ap answer.Refused h.1))
refusal_says limits bytes code (inr (inr (inr (inl h)))) =
    says_at_end limits bytes h.0.size h.0.field_lines (answer.Refused code) h.0.ends (inr (h.0.is_one, inl (h.0.no_head, h.1)))
refusal_says limits bytes code (inr (inr (inr (inr h)))) =
    says_at_end limits bytes h.size h.field_lines (answer.Refused code) h.ends (inr (h.is_one, inr (record { head = h.head; is_head = h.is_head; says = h.says })))

class_says : (limits : Limits) (bytes : List ℕ) (given : HeadAnswer) → HeadIs limits bytes given → given ≢ answer.NoMemory → ClassSays limits bytes (class_of limits (head_window bytes)) given
class_says limits bytes (answer.Whole request n) h some =
    says_at_end limits bytes n h.field_lines (answer.Whole request n) h.ends
    (inr (
      h.is_one,
      (
        record { head = h.head; is_head = h.is_head; says = h.says },
        sym (length_as_read limits (take n bytes) h.field_lines h.ends.text ∙ length-take-le n bytes h.ends.within),
      ),
    ))
class_says limits bytes answer.More h some =
    let same : head_window bytes ≡ bytes = take_all 65537 bytes (omega (arith, h.small)) in
    let unended : class_of limits (head_window bytes) ≡ Unended = ap (class_of limits) same ∙ class_unended limits bytes h.unended in
    subst (λ c. ClassSays limits bytes c answer.More) (sym unended) (inl (h.small, refl))
class_says limits bytes (answer.Refused code) h some = refusal_says limits bytes code h
class_says limits bytes answer.NoMemory h some = absurd (some refl)

-- a text says one thing
same_head : (most : ℕ) (text : List ℕ) (head other : RequestHead) → IsHead most text head → IsHead most text other → head ≡ other
same_head most text head other h k = (request_unique text head other [] [] h.reads k.reads).0

same_said : (most : ℕ) (long : Bool) (text : List ℕ) (said other : Result RequestParts ℕ) → IsSaidHead most long text said → IsSaidHead most long text other → said ≡ other
same_said most long text said other h k =
    sym h.says ∙ ap (head_says long) (same_head most text h.head k.head h.is_head k.is_head) ∙ k.says

same_refusal : (most : ℕ) (long : Bool) (text : List ℕ) (code other : ℕ) → TextIs most long text (answer.Refused code) → TextIs most long text (answer.Refused other) → code ≡ other
same_refusal most long text code other (inl h) (inl k) = h.1 ∙ sym k.1
same_refusal most long text code other (inl h) (inr k) = absurd (h.0 k.head k.is_head)
same_refusal most long text code other (inr h) (inl k) = absurd (k.0 h.head h.is_head)
same_refusal most long text code other (inr h) (inr k) =
    let same = same_said most long text (Err code) (Err other) h k in
    cc

whole_not_refused : (most : ℕ) (long : Bool) (text : List ℕ) (request : RequestParts) (code : ℕ) → IsSaidHead most long text (Ok request) → TextIs most long text (answer.Refused code) → ⊥
whole_not_refused most long text request code h (inl k) = k.0 h.head h.is_head
whole_not_refused most long text request code h (inr k) = let same = same_said most long text (Ok request) (Err code) h k in cc

same_text : (most : ℕ) (long : Bool) (text : List ℕ) (given other : HeadAnswer) → TextIs most long text given → TextIs most long text other → given ≢ answer.NoMemory → other ≢ answer.NoMemory → given ≡ other
same_text most long text given answer.NoMemory h k g o = absurd (o refl)
same_text most long text given answer.More h k g o = absurd k
same_text most long text answer.NoMemory other h k g o = absurd (g refl)
same_text most long text answer.More other h k g o = absurd h
same_text most long text (answer.Whole request n) (answer.Whole asked m) h k g o =
    let requests = same_said most long text (Ok request) (Ok asked) h.0 k.0 in
    let sizes : n ≡ m = h.1 ∙ sym k.1 in
    cc
same_text most long text (answer.Whole request n) (answer.Refused code) h k g o = absurd (whole_not_refused most long text request code h.0 k)
same_text most long text (answer.Refused code) (answer.Whole request n) h k g o = absurd (whole_not_refused most long text request code k.0 h)
same_text most long text (answer.Refused code) (answer.Refused other) h k g o = ap answer.Refused (same_refusal most long text code other h k)

same_reads : (most : ℕ) (long : Bool) (v : Version) (text : List ℕ) (given other : HeadAnswer) → ReadsBy most long v text given → ReadsBy most long v text other → given ≢ answer.NoMemory → other ≢ answer.NoMemory → given ≡ other
same_reads most long version.Written text given other h k g o = same_text most long text given other h k g o
same_reads most long (version.Later digit) text given other h k g o = same_text most long (set text digit 49) given other h k g o
same_reads most long version.Other text given other h k g o = h ∙ sym k

same_by_class : (limits : Limits) (bytes : List ℕ) (c : Class) (given other : HeadAnswer) → ClassSays limits bytes c given → ClassSays limits bytes c other → given ≢ answer.NoMemory → other ≢ answer.NoMemory → given ≡ other
same_by_class limits bytes Long given other h k g o = h ∙ sym k
same_by_class limits bytes Unended given other (inl h) (inl k) g o = h.1 ∙ sym k.1
same_by_class limits bytes Unended given other (inl h) (inr k) g o = absurd (omega (arith, h.0, k.0))
same_by_class limits bytes Unended given other (inr h) (inl k) g o = absurd (omega (arith, h.0, k.0))
same_by_class limits bytes Unended given other (inr h) (inr k) g o = h.1 ∙ sym k.1
same_by_class limits bytes (Ends n fields) given other (inl h) (inl k) g o =
    same_reads limits.fields (has_long_field limits fields) (version_of (take n bytes)) (take n bytes) given other h.1 k.1 g o
same_by_class limits bytes (Ends n fields) given other (inl h) (inr k) g o = absurd (omega (arith, h.0, k.0))
same_by_class limits bytes (Ends n fields) given other (inr h) (inl k) g o = absurd (omega (arith, h.0, k.0))
same_by_class limits bytes (Ends n fields) given other (inr h) (inr k) g o = h.1 ∙ sym k.1

pub same_heads : (limits : Limits) (bytes : List ℕ) (given other : HeadAnswer) → HeadIs limits bytes given → HeadIs limits bytes other → given ≢ answer.NoMemory → other ≢ answer.NoMemory → given ≡ other
same_heads limits bytes given other h k g o =
    same_by_class limits bytes (class_of limits (head_window bytes)) given other (class_says limits bytes given h g) (class_says limits bytes other k o) g o
