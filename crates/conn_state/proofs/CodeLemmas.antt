-- The codes by which a head or a body is refused.
use Rattle.std.proofs.Common.{◌≡◌, ℕ, Bool, true, false, ◌&&◌, ◌||◌, ◌==◌, nat_lt, List, [], ◌∷◌, length, drop, map, codes, Result, Ok, Err, IfErr, if◌then◌else◌, inl, inr, refl, ap, subst, ◌∙◌}
use Rattle.std.specs.List.{list_all}
use Rattle.std.specs.Char.{is_ascii_digit}
use Rattle.std.specs.Str.Parse.{digits_value}
use Rattle.httparse.specs.Spans.{name_and_value}
use Rattle.mpm_base.specs.LetterCase.{is_same_ignoring_case}
use Rattle.http_read.specs.declared.request.BodyKind.{BodyKind}
use Rattle.http_read.specs.declared.request.BodyKind.TheVariants as kind
use Rattle.http_read.specs.declared.request.Limits.{Limits}
use Rattle.http_read.specs.Authority.{is_host_value}
use Rattle.http_read.specs.FieldValues.{values_named, words_of_all, ends_in_word}
use Rattle.http_read.specs.HeadRules.{unless_refused, host_in, length_of, sized_body, coded_body, transfer_body, body_of, has_content, expectation, expects_of, said_by}
use Rattle.http_read.specs.FieldLimit.{has_long_field}
use Rattle.http_read.specs.Head.{IsRefusal}
use Rattle.http_read.specs.BodyForm.{BreaksBody, BreaksChunked}
use Rattle.http_read.specs.Requests.{ReadRefusal, BeginsRefusal}
use Rattle.http_core.specs.Code.{refuses_head}

-- where it is refused, that is by one of the codes
abbrev HasCode : {A : Type 0} → Result A ℕ → Type 0
HasCode r = IfErr r (λ code. refuses_head code ≡ true)

-- either way
either-code : {A : Type 0} (test : Bool) (a b : Result A ℕ) → HasCode a → HasCode b → HasCode (if test then a else b)
either-code true a b first second = first
either-code false a b first second = second

-- one after the other
next-code : {A B : Type 0} (r : Result A ℕ) (next : A → Result B ℕ) → HasCode r → ((a : A) → HasCode (next a)) → HasCode (unless_refused r next)
next-code (Ok a) next first later = later a
next-code (Err code) next first later = first

-- Host
host-code : (minor : ℕ) (values : List (List ℕ)) → HasCode (host_in minor values)
host-code minor [] = either-code (minor == 1) (Err 400) (Ok []) refl tt
host-code minor (value ∷ []) = either-code (is_host_value value) (Ok value) (Err 400) tt refl
host-code minor (value ∷ (other ∷ values)) = refl

-- Content-Length
length-code : (value : List ℕ) → HasCode (length_of value)
length-code value =
    either-code (nat_lt 0 (length value) && list_all is_ascii_digit value)
    (if nat_lt 1073741824 (digits_value 10 value) then Err 413 else Ok (kind.Length (digits_value 10 value))) (Err 400)
    (either-code (nat_lt 1073741824 (digits_value 10 value)) (Err 413) (Ok (kind.Length (digits_value 10 value))) refl tt) refl

-- a body by its length
sized-code : (values : List (List ℕ)) → HasCode (sized_body values)
sized-code [] = tt
sized-code (value ∷ []) = length-code value
sized-code (value ∷ (other ∷ values)) = refl

-- other codings
coded-code : (codings : List (List ℕ)) → HasCode (coded_body codings)
coded-code codings = either-code (ends_in_word (codes "chunked") (words_of_all codings)) (Err 501) (Err 400) refl refl

-- a body by its codings
transfer-code : (codings : List (List ℕ)) → HasCode (transfer_body codings)
transfer-code [] = coded-code []
transfer-code (value ∷ []) = either-code (is_same_ignoring_case value (codes "chunked")) (Ok kind.Chunked) (coded_body (value ∷ [])) tt (coded-code (value ∷ []))
transfer-code (value ∷ (other ∷ values)) = coded-code (value ∷ (other ∷ values))

-- a body
body-code : (minor : ℕ) (codings lengths : List (List ℕ)) → HasCode (body_of minor codings lengths)
body-code minor [] lengths = sized-code lengths
body-code minor (coding ∷ codings) lengths =
    either-code ((minor == 0) || nat_lt 0 (length lengths)) (Err 400) (transfer_body (coding ∷ codings)) refl (transfer-code (coding ∷ codings))

-- Expect of HTTP/1.1
expectation-code : (body : BodyKind) (values : List (List ℕ)) → HasCode (expectation body values)
expectation-code body [] = tt
expectation-code body (value ∷ []) = either-code (is_same_ignoring_case value (codes "100-continue")) (Ok (has_content body)) (Err 417) tt refl
expectation-code body (value ∷ (other ∷ values)) = refl

-- Expect
expects-code : (minor : ℕ) (body : BodyKind) (values : List (List ℕ)) → HasCode (expects_of minor body values)
expects-code minor body values = either-code (minor == 0) (Ok false) (expectation body values) tt (expectation-code body values)

-- a head of the grammar
said-code : (long : Bool) (method target : List ℕ) (minor : ℕ) (fields : List (List ℕ × List ℕ)) → HasCode (said_by long method target minor fields)
said-code true method target minor fields = refl
said-code false method target minor fields =
    next-code (host_in minor (values_named (codes "host") fields)) _ (host-code minor (values_named (codes "host") fields)) (λ host.
    next-code (body_of minor (values_named (codes "transfer-encoding") fields) (values_named (codes "content-length") fields)) _
    (body-code minor (values_named (codes "transfer-encoding") fields) (values_named (codes "content-length") fields)) (λ body.
    next-code (expects_of minor body (values_named (codes "expect") fields)) _ (expects-code minor body (values_named (codes "expect") fields)) (λ expects. tt)))

-- a code that is one of them
is-code : (code other : ℕ) → code ≡ other → refuses_head other ≡ true → refuses_head code ≡ true
is-code code other is listed = ap refuses_head is ∙ listed

-- a head is refused by one of them
head-code : (limits : Limits) (bytes : List ℕ) (code : ℕ) → IsRefusal limits bytes code → refuses_head code ≡ true
head-code limits bytes code (inl long) = is-code code 414 long.1 refl
head-code limits bytes code (inr (inl large)) = is-code code 400 large.1 refl
head-code limits bytes code (inr (inr (inl other))) = is-code code 505 other.1 refl
head-code limits bytes code (inr (inr (inr (inl none)))) = is-code code 400 none.1 refl
head-code limits bytes code (inr (inr (inr (inr refused)))) =
    subst HasCode refused.says
    (said-code (has_long_field limits refused.field_lines) refused.head.method refused.head.target refused.head.minor (map name_and_value refused.head.fields))

-- a chunked body is refused by one of them
chunked-code : (bytes : List ℕ) (code : ℕ) → BreaksChunked bytes code → refuses_head code ≡ true
chunked-code bytes code (inl b) = is-code code 400 b.code_is refl
chunked-code bytes code (inr (inl b)) = is-code code 400 b.code_is refl
chunked-code bytes code (inr (inr (inl b))) = is-code code 413 b.code_is refl
chunked-code bytes code (inr (inr (inr (inl b)))) = is-code code 400 b.code_is refl
chunked-code bytes code (inr (inr (inr (inr b)))) = is-code code 400 b.code_is refl

-- a body is refused by one of them
body_breaks-code : (of : BodyKind) (bytes : List ℕ) (code : ℕ) → BreaksBody of bytes code → refuses_head code ≡ true
body_breaks-code kind.Nothing bytes code b = absurd b
body_breaks-code (kind.Length n) bytes code b = absurd b
body_breaks-code kind.Chunked bytes code b = chunked-code bytes code b

-- what stands at the front is refused by one of them
pub refusal-code : (limits : Limits) (bytes : List ℕ) (refusal : ReadRefusal) → BeginsRefusal limits bytes refusal → refuses_head refusal.code ≡ true
refusal-code limits bytes refusal (inl refused) = head-code limits bytes refusal.code refused.0
refusal-code limits bytes refusal (inr b) = body_breaks-code b.request.body (drop b.head_len bytes) refusal.code b.broken
