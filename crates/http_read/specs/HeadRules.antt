-- What a head of the grammar says of its request, or the code by which it is refused.
-- Why it is so stands in docs/DECISIONS.md: 23, What a request expects.
use Rattle.std.specs.Prelude.{ℕ, Bool, true, false, not, ◌&&◌, ◌||◌, List, [], ◌∷◌, length, Result, Ok, Err, if◌then◌else◌, ◌==◌, nat_lt, codes}
use Rattle.std.specs.List.{list_all}
use Rattle.std.specs.Char.{is_ascii_digit}
use Rattle.std.specs.Str.Parse.{digits_value}
use Rattle.mpm_base.specs.LetterCase.{is_same_ignoring_case}
use Rattle.http_read.specs.declared.request.BodyKind.{BodyKind}
use Rattle.http_read.specs.declared.request.BodyKind.TheVariants as kind
use Rattle.http_read.specs.Authority.{is_host_value}
use Rattle.http_read.specs.FieldValues.{values_named, words_of_all, words_where_any, only_value, has_word, ends_in_word}
use Rattle.http_read.specs.RequestParts.{Conditions, RequestParts}
use Rattle.http_read.specs.Sizes.{greatest_body}

-- what follows an answer, unless that is a refusal already
abbrev pub unless_refused : {A B : Type 0} → Result A ℕ → (A → Result B ℕ) → Result B ℕ
unless_refused (Ok answer) next = next answer
unless_refused (Err code) next = Err code

-- the one Host, 400 where its value is none (RFC 9110, section 7.2)
abbrev pub one_host : List ℕ → Result (List ℕ) ℕ
one_host value = if is_host_value value then Ok value else Err 400

-- the Host of a request (RFC 9112, section 3.2): 400 in HTTP/1.1 without exactly one, in HTTP/1.0 with more than one, and where the value of the one is none; none there is the empty one
abbrev pub host_in : ℕ → List (List ℕ) → Result (List ℕ) ℕ
host_in minor [] = if minor == 1 then Err 400 else Ok []
host_in minor (value ∷ []) = one_host value
host_in minor (value ∷ other ∷ values) = Err 400

-- the number of a Content-Length: 400 where it isn't one or more digits, 413 above the greatest size of a body (RFC 9110, section 8.6)
abbrev pub length_of : List ℕ → Result BodyKind ℕ
length_of value =
    if nat_lt 0 (length value) && list_all is_ascii_digit value
    then (if nat_lt greatest_body (digits_value 10 value) then Err 413 else Ok (kind.Length (digits_value 10 value)))
    else Err 400

-- the body that the Content-Length fields say, 400 for more than one (RFC 9112, section 6.3)
abbrev pub sized_body : List (List ℕ) → Result BodyKind ℕ
sized_body [] = Ok kind.Nothing
sized_body (value ∷ []) = length_of value
sized_body (value ∷ other ∷ values) = Err 400

-- the body that other transfer codings say: 400 where the last one isn't chunked, else 501 (RFC 9112, section 6.1)
abbrev pub coded_body : List (List ℕ) → Result BodyKind ℕ
coded_body codings = if ends_in_word (codes "chunked") (words_of_all codings) then Err 501 else Err 400

-- the body that the transfer codings say: a single `chunked` alone is built
abbrev pub transfer_body : List (List ℕ) → Result BodyKind ℕ
transfer_body [] = coded_body []
transfer_body (value ∷ []) = if is_same_ignoring_case value (codes "chunked") then Ok kind.Chunked else coded_body (value ∷ [])
transfer_body (value ∷ other ∷ values) = coded_body (value ∷ other ∷ values)

-- the body of a request (RFC 9112, section 6.3): by its Transfer-Encoding where there is one, which is refused by 400 in HTTP/1.0 and beside a Content-Length, else by its Content-Length
abbrev pub body_of : ℕ → List (List ℕ) → List (List ℕ) → Result BodyKind ℕ
body_of minor [] lengths = sized_body lengths
body_of minor (coding ∷ codings) lengths =
    if (minor == 0) || nat_lt 0 (length lengths) then Err 400 else transfer_body (coding ∷ codings)

-- some bytes of a body are to come
abbrev pub has_content : BodyKind → Bool
has_content kind.Nothing = false
has_content (kind.Length n) = nat_lt 0 n
has_content kind.Chunked = true

-- whether the client waits for 100 Continue, where bytes of a body are to come, by the values of Expect of a request of HTTP/1.1: 417 for any other expectation (RFC 9110, section 10.1.1)
abbrev pub expectation : BodyKind → List (List ℕ) → Result Bool ℕ
expectation body [] = Ok false
expectation body (value ∷ []) = if is_same_ignoring_case value (codes "100-continue") then Ok (has_content body) else Err 417
expectation body (value ∷ other ∷ values) = Err 417

-- the same by the version: a request of HTTP/1.0 expects nothing
abbrev pub expects_of : ℕ → BodyKind → List (List ℕ) → Result Bool ℕ
expects_of minor body values = if minor == 0 then Ok false else expectation body values

-- whether a word asks to close the connection, or in HTTP/1.0 none asks to keep it alive (RFC 9112, section 9.3)
abbrev pub asks_close : ℕ → List (List ℕ) → Bool
asks_close minor words = has_word (codes "close") words || ((minor == 0) && not (has_word (codes "keep-alive") words))

-- the conditions that these fields say (RFC 9110, section 13.1); none is refused for its value
abbrev pub conditions_in : List (List ℕ × List ℕ) → Conditions
conditions_in fields = record {
  if_match = words_where_any (values_named (codes "if-match") fields);
  if_none_match = words_where_any (values_named (codes "if-none-match") fields);
  if_unmodified_since = only_value (values_named (codes "if-unmodified-since") fields);
  if_modified_since = only_value (values_named (codes "if-modified-since") fields);
  if_range = only_value (values_named (codes "if-range") fields);
  ranged_if = nat_lt 0 (length (values_named (codes "if-range") fields));
}

-- what a head with this method, target, version and these fields says, or the code by which it is refused: a field line that is too long, Host, the body and Expect, in this order
abbrev pub said_by : Bool → List ℕ → List ℕ → ℕ → List (List ℕ × List ℕ) → Result RequestParts ℕ
said_by long method target minor fields =
    if long then Err 400 else
    unless_refused (host_in minor (values_named (codes "host") fields)) (λ host.
    unless_refused (body_of minor (values_named (codes "transfer-encoding") fields) (values_named (codes "content-length") fields)) (λ body.
    unless_refused (expects_of minor body (values_named (codes "expect") fields)) (λ expects.
    Ok (record {
      method = method;
      target = target;
      minor = minor;
      host = host;
      asked_close = asks_close minor (words_of_all (values_named (codes "connection") fields));
      expects = expects;
      range = only_value (values_named (codes "range") fields);
      conditions = conditions_in fields;
      body = body;
    }))))
