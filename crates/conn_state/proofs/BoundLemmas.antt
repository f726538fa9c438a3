-- How many bytes the front of a request may have.
use Rattle.std.proofs.Common.{◌≡◌, ℕ, ◌+◌, ◌*◌, ◌≤◌, Bool, true, false, ◌&&◌, ◌||◌, ◌==◌, nat_lt, List, [], ◌∷◌, ◌++◌, length, drop, map, codes, All, Result, Ok, Err, IfOk, if◌then◌else◌, inl, inr, refl, ap, subst, ◌∙◌, arith, length-append}
use Rattle.std.specs.Prelude.{⊤}
use Rattle.std.specs.List.{list_all}
use Rattle.std.specs.Char.{is_ascii_digit}
use Rattle.std.specs.Str.Parse.{digits_value}
use Rattle.std.proofs.lemmas.Bool.Decides.{nat_tests}
use Rattle.std.proofs.lemmas.Grind.{flat_map-append}
use Rattle.std.proofs.lemmas.List.{length-drop}
use Rattle.std.proofs.lemmas.List.Elements.{All-head, All-tail}
use Rattle.std.proofs.lemmas.List.Sums.{sum_by-cons}
use Rattle.httparse.specs.Ascii.{crlf_bytes}
use Rattle.httparse.specs.Grammar.{Field, print_field, print_chunk_line}
use Rattle.httparse.specs.Spans.{name_and_value}
use Rattle.mpm_base.specs.LetterCase.{is_same_ignoring_case}
use Rattle.http_read.specs.declared.request.BodyKind.{BodyKind}
use Rattle.http_read.specs.declared.request.BodyKind.TheVariants as kind
use Rattle.http_read.specs.declared.request.Limits.{Limits}
use Rattle.http_read.specs.FieldValues.{values_named, words_of_all, ends_in_word}
use Rattle.http_read.specs.HeadRules.{unless_refused, host_in, length_of, sized_body, coded_body, transfer_body, body_of, expects_of, said_by}
use Rattle.http_read.specs.RequestParts.{RequestParts}
use Rattle.http_read.specs.ChunkLines.{Chunk, IsChunk, print_chunk, print_chunks, content_len, AreChunks}
use Rattle.http_read.specs.TrailerLines.{IsTrailer, print_trailers}
use Rattle.http_read.specs.FieldLimit.{has_long_field}
use Rattle.http_read.specs.Head.{BeginsHead}
use Rattle.http_read.specs.BodyForm.{IsChunkedData, EndsInChunkLine, EndsInChunk, EndsInTrailer, IsBodyFront}
use Rattle.conn_state.specs.declared.stage.Stage.{Stage}
use Rattle.conn_state.specs.declared.stage.Stage.TheVariants as stage
use Rattle.conn_state.specs.Steps.{WaitsIn}

-- ## A body by its length

-- a body by its length has at most 1,073,741,824 bytes
abbrev pub IsSmallBody : BodyKind → Type 0
IsSmallBody kind.Nothing = ⊤
IsSmallBody (kind.Length n) = n ≤ 1073741824
IsSmallBody kind.Chunked = ⊤

-- where there is a body, it is such a one
abbrev HasSmallBody : Result BodyKind ℕ → Type 0
HasSmallBody r = IfOk r IsSmallBody

-- either way
either-ok : {A : Type 0} (P : A → Type 0) (test : Bool) (a b : Result A ℕ) → IfOk a P → IfOk b P → IfOk (if test then a else b) P
either-ok P true a b first second = first
either-ok P false a b first second = second

-- a number above the greatest is refused
length-small : (test : Bool) (n : ℕ) → nat_lt 1073741824 n ≡ test → HasSmallBody (if test then Err 413 else Ok (kind.Length n))
length-small true n is = tt
length-small false n is = grind (arith, nat_tests, is)

-- Content-Length
length-value : (value : List ℕ) → HasSmallBody (length_of value)
length-value value =
    either-ok IsSmallBody (nat_lt 0 (length value) && list_all is_ascii_digit value)
    (if nat_lt 1073741824 (digits_value 10 value) then Err 413 else Ok (kind.Length (digits_value 10 value))) (Err 400)
    (length-small (nat_lt 1073741824 (digits_value 10 value)) (digits_value 10 value) refl) tt

-- a body by its length
sized-small : (values : List (List ℕ)) → HasSmallBody (sized_body values)
sized-small [] = tt
sized-small (value ∷ []) = length-value value
sized-small (value ∷ (other ∷ values)) = tt

-- other codings
coded-small : (codings : List (List ℕ)) → HasSmallBody (coded_body codings)
coded-small codings = either-ok IsSmallBody (ends_in_word (codes "chunked") (words_of_all codings)) (Err 501) (Err 400) tt tt

-- a body by its codings
transfer-small : (codings : List (List ℕ)) → HasSmallBody (transfer_body codings)
transfer-small [] = coded-small []
transfer-small (value ∷ []) =
    either-ok IsSmallBody (is_same_ignoring_case value (codes "chunked")) (Ok kind.Chunked) (coded_body (value ∷ [])) tt (coded-small (value ∷ []))
transfer-small (value ∷ (other ∷ values)) = coded-small (value ∷ (other ∷ values))

-- a body
body-small : (minor : ℕ) (codings lengths : List (List ℕ)) → HasSmallBody (body_of minor codings lengths)
body-small minor [] lengths = sized-small lengths
body-small minor (coding ∷ codings) lengths =
    either-ok IsSmallBody ((minor == 0) || nat_lt 0 (length lengths)) (Err 400) (transfer_body (coding ∷ codings)) tt (transfer-small (coding ∷ codings))

-- one after the other
next-ok : {A B : Type 0} (P : B → Type 0) (r : Result A ℕ) (next : A → Result B ℕ) → ((a : A) → r ≡ Ok a → IfOk (next a) P) → IfOk (unless_refused r next) P
next-ok P (Ok a) next later = later a refl
next-ok P (Err code) next later = tt

-- the request has such a body
abbrev SaysSmall : RequestParts → Type 0
SaysSmall r = IsSmallBody r.body

-- a head of the grammar
said-small : (long : Bool) (method target : List ℕ) (minor : ℕ) (fields : List (List ℕ × List ℕ)) → IfOk (said_by long method target minor fields) SaysSmall
said-small true method target minor fields = tt
said-small false method target minor fields =
    next-ok SaysSmall (host_in minor (values_named (codes "host") fields)) _ (λ host host_is.
    next-ok SaysSmall (body_of minor (values_named (codes "transfer-encoding") fields) (values_named (codes "content-length") fields)) _ (λ body body_is.
    next-ok SaysSmall (expects_of minor body (values_named (codes "expect") fields)) _ (λ expects expects_is.
    subst HasSmallBody body_is (body-small minor (values_named (codes "transfer-encoding") fields) (values_named (codes "content-length") fields)))))

-- an accepted head
head-small : (limits : Limits) (bytes : List ℕ) (request : RequestParts) (n : ℕ) → BeginsHead limits bytes request n → IsSmallBody request.body
head-small limits bytes request n h =
    subst (λ (r : Result RequestParts ℕ). IfOk r SaysSmall) h.says
    (said-small (has_long_field limits h.field_lines) h.head.method h.head.target h.head.minor (map name_and_value h.head.fields))

-- ## A chunked body

-- a chunk has at most 1,027 bytes for each byte of its data
chunk-few : (c : Chunk) → IsChunk c → length (print_chunk c) ≤ 1027 * length c.content
chunk-few c is =
    let ends = length-append c.content crlf_bytes in
    let lines = length-append (print_chunk_line c.line) (c.content ++ crlf_bytes) in
    omega (arith, is.line.short, is.some, ends, lines)

-- so have chunks
chunks-few : (chunks : List Chunk) → All IsChunk chunks → length (print_chunks chunks) ≤ 1027 * content_len chunks
chunks-few [] all = omega arith
chunks-few (c ∷ chunks) all =
    let first = chunk-few c (All-head IsChunk c chunks all) in
    let others = chunks-few chunks (All-tail IsChunk c chunks all) in
    let sums = sum_by-cons (λ (d : Chunk). length d.content) c chunks in
    let joined = length-append (print_chunk c) (print_chunks chunks) in
    omega (arith, first, others, sums, joined)

-- chunks have few bytes
are-few : (chunks : List Chunk) → AreChunks chunks → length (print_chunks chunks) ≤ 1102732853248
are-few chunks are = omega (arith, chunks-few chunks are.each, are.sum)

-- trailer lines
trailers-few : (fields : List Field) → All IsTrailer fields → length (print_trailers fields) ≤ 8190 * length fields
trailers-few [] all = omega arith
trailers-few (f ∷ fields) all =
    let first : length (print_field f) ≤ 8190 = (All-head IsTrailer f fields all).short in
    let others = trailers-few fields (All-tail IsTrailer f fields all) in
    let joined = length-append (print_field f) (print_trailers fields) in
    omega (arith, first, others, joined)

-- the chunks and the line of the last one
data-few : (bytes : List ℕ) → IsChunkedData bytes → length bytes ≤ 1102732854272
data-few bytes is =
    let chunks = are-few is.chunks is.are_chunks in
    let joined = length-append (print_chunks is.chunks) (print_chunk_line is.last) in
    omega (arith, ap length is.printed, chunks, joined, is.is_line.short)

-- in a chunk line
line-few : (bytes line : List ℕ) → EndsInChunkLine bytes line → length bytes ≤ 1102732854272
line-few bytes line e =
    let chunks = are-few e.chunks e.are_chunks in
    omega (arith, ap length e.printed, chunks, length-append (print_chunks e.chunks) line, e.begun.short)

-- in a chunk
in_chunk-few : (bytes : List ℕ) → EndsInChunk bytes → length bytes ≤ 1102732854272
in_chunk-few bytes e =
    let chunks = are-few (e.chunks ++ e.chunk ∷ []) e.are_chunks in
    let joined = ap length (flat_map-append print_chunk e.chunks (e.chunk ∷ [])) ∙ length-append (print_chunks e.chunks) (print_chunk e.chunk ++ [])
    ∙ ap (λ n. length (print_chunks e.chunks) + n) (length-append (print_chunk e.chunk) []) in
    let last = length-append (print_chunk_line e.chunk.line) (e.chunk.content ++ crlf_bytes) in
    let whole = ap length e.whole ∙ length-append e.here e.missing in
    let here = ap length e.printed ∙ length-append (print_chunks e.chunks) (print_chunk_line e.chunk.line ++ e.here)
    ∙ ap (λ n. length (print_chunks e.chunks) + n) (length-append (print_chunk_line e.chunk.line) e.here) in
    omega (arith, chunks, joined, last, whole, here)

-- in the trailer lines
in_trailer-few : (bytes line : List ℕ) → EndsInTrailer bytes line → length bytes ≤ 1102733681462
in_trailer-few bytes line e =
    let trailers = trailers-few e.trailers e.are_trailers.each in
    omega (
      arith,
      ap length e.printed,
      data-few e.before e.is_data,
      trailers,
      e.are_trailers.few,
      e.begun.short,
      length-append e.before (print_trailers e.trailers ++ line),
      length-append (print_trailers e.trailers) line,
    )

-- ## The front of a request

-- the front of a body
front-few : (of : BodyKind) (bytes line : List ℕ) → IsSmallBody of → IsBodyFront of bytes line → length bytes ≤ 1102733681462
front-few kind.Nothing bytes line small front = absurd front
front-few (kind.Length n) bytes line small front = omega (arith, small, front.0)
front-few kind.Chunked bytes line small (inl front) = omega (arith, line-few bytes line front)
front-few kind.Chunked bytes line small (inr (inl front)) = omega (arith, in_chunk-few bytes front.0)
front-few kind.Chunked bytes line small (inr (inr front)) = in_trailer-few bytes line front

-- bytes that wait for more are few
pub waits-few : (limits : Limits) (unread : List ℕ) (s : Stage) (rest : List ℕ) → WaitsIn limits unread s rest → length rest ≤ 1102733746998
waits-few limits unread (stage.Head reader) rest w = omega (arith, w.front.small)
waits-few limits unread (stage.Body request reader) rest w =
    let few = front-few request.body (drop w.head_len rest) unread (head-small limits rest request w.head_len w.head) w.front in
    omega (arith, few, w.head.ends.fits, length-drop w.head_len rest)
waits-few limits unread (stage.Whole request) rest w = absurd w
waits-few limits unread (stage.Refused code expected) rest w = absurd w
