-- What the bytes of chunks and of trailer lines make of a chunked body.
use Rattle.std.proofs.Common.{◌≡◌, ◌≢◌, ℕ, ◌+◌, ◌-◌, ◌<◌, ◌≤◌, inl, inr, List, [], ◌∷◌, ◌++◌, length, refl, sym, ap, ◌∙◌, subst, arith, append_assoc, length-append}
use Rattle.std.specs.Prelude.{All}
use Rattle.std.proofs.lemmas.Bool.{cases_lt}
use Rattle.std.proofs.lemmas.Bool.Decides.{nat_tests}
use Rattle.std.proofs.lemmas.List.{append-nil}
use Rattle.std.proofs.lemmas.List.Elements.{All-head, All-tail}
use Rattle.std.proofs.lemmas.List.Sums.{sum_by-cons}
use Rattle.std.proofs.Math.Seq.{drop-append_seam}
use Rattle.std.proofs.Math.Nat.{sub_self}
use Rattle.httparse.specs.Grammar.{LineEnd, print_end, Field, print_field, ChunkLine, print_chunk_line, chunk_size}
use Rattle.http_read.specs.declared.trailer_line.TrailerFront.{TrailerFront}
use Rattle.http_read.specs.declared.trailer_line.TrailerMove.TheVariants.{Field as IsWholeField}
use Rattle.http_read.specs.declared.chunked.ChunkTotals.{ChunkTotals}
use Rattle.http_read.specs.declared.chunked.ChunkedPlace.TheVariants.{Line, Data, Trailer}
use Rattle.http_read.specs.declared.chunked.ChunkedMove.TheVariants.{On, Bad}
use Rattle.http_read.specs.ChunkLines.{IsShortLine, Chunk, IsChunk, print_chunk, print_chunks, content_len, extension_len, extensions_len, AreChunks}
use Rattle.http_read.specs.TrailerLines.{HasNoLineFeed, IsTrailer, print_trailers, AreTrailers, IsTrailerBegun, HasNoTrailer}
use Rattle.http_read.specs.BodyForm.{IsChunkedData}
use Rattle.http_read.specs.BodyPlaces.{IsTrailerFront}
use Rattle.http_read.specs.ChunkStepsInside.{Breaks, Ended, first_front, first_place, first_trailer, no_totals, behind_whole, behind_trailer, trailer_step, run, run_on}
use Rattle.http_read.proofs.ChunkStepLemmas.{run_data}
use Rattle.http_read.proofs.ChunkLineRuns.{body_of_line, run_line, found_line}
use Rattle.http_read.proofs.TrailerLemmas.{trailer_means, first_is_trailer, goes_on, full_step, text_of_field, field_move, empty_move, broken_move, cr_begun}

-- ---- chunks

-- a chunk line
pub run_whole_line : (l : ChunkLine) (totals : ChunkTotals) (rest : List ℕ) → IsShortLine l
    → run (print_chunk_line l ++ rest) (Line totals first_front) ≡ run_on (behind_whole totals (chunk_size l) (extension_len l)) rest
run_whole_line l totals rest is_line =
    run_line (print_chunk_line l ++ rest) totals first_front
    ∙ ap (body_of_line totals) (found_line (print_chunk_line l ++ rest) rest l is_line refl)

-- what the chunks have with one more
abbrev pub with_chunk : ChunkTotals → ℕ → ℕ → ChunkTotals
with_chunk totals size extension = record { content = totals.content + size; extensions = totals.extensions + extension }

-- both totals stay within their limits
abbrev pub FitsMore : ChunkTotals → ℕ → ℕ → Type 0
FitsMore totals size extension = (totals.content + size ≤ 1073741824) × (totals.extensions + extension ≤ 16384)

line_within : (totals : ChunkTotals) (size extension : ℕ) → 0 < size → FitsMore totals size extension → behind_whole totals size extension ≡ On (Data (with_chunk totals size extension) size)
line_within totals size extension some fits = grind (arith, nat_tests, fits.0, fits.1)

pub line_above : (totals : ChunkTotals) (size extension : ℕ) → totals.content ≤ 1073741824 → totals.extensions + extension ≤ 16384 → 1073741824 < totals.content + size → behind_whole totals size extension ≡ Bad 413
line_above totals size extension within few above = grind (arith, nat_tests)

pub line_beyond : (totals : ChunkTotals) (size extension : ℕ) → totals.extensions ≤ 16384 → 16384 < totals.extensions + extension → behind_whole totals size extension ≡ Bad 400
line_beyond totals size extension within above = grind (arith, nat_tests)

-- the line of a chunk
pub run_chunk_line : (l : ChunkLine) (totals : ChunkTotals) (rest : List ℕ) → IsShortLine l → 0 < chunk_size l → FitsMore totals (chunk_size l) (extension_len l)
    → run (print_chunk_line l ++ rest) (Line totals first_front) ≡ run rest (Data (with_chunk totals (chunk_size l) (extension_len l)) (chunk_size l))
run_chunk_line l totals rest is_line some fits =
    run_whole_line l totals rest is_line ∙ ap (λ m. run_on m rest) (line_within totals (chunk_size l) (extension_len l) some fits)

-- the data of a chunk
pub run_content : (content rest : List ℕ) (totals : ChunkTotals) → run (content ++ rest) (Data totals (length content)) ≡ run rest (Data totals 0)
run_content content rest totals =
    run_data (content ++ rest) (length content) totals (length content) (omega (arith, length-append content rest)) (omega arith)
    ∙ ap (λ xs. run xs (Data totals (length content - length content))) (drop-append_seam content rest)
    ∙ ap (λ n. run rest (Data totals n)) (sub_self (length content))

-- the line and the data of a chunk
pub run_to_end : (c : Chunk) (totals : ChunkTotals) (rest : List ℕ) → IsChunk c → FitsMore totals (length c.content) (extension_len c.line)
    → run (print_chunk_line c.line ++ (c.content ++ rest)) (Line totals first_front) ≡ run rest (Data (with_chunk totals (length c.content) (extension_len c.line)) 0)
run_to_end c totals rest is fits =
    let extension = extension_len c.line in
    run_chunk_line c.line totals (c.content ++ rest) is.line (omega (arith, is.size, is.some)) (subst (λ n. FitsMore totals n extension) (sym is.size) fits)
    ∙ ap (λ n. run (c.content ++ rest) (Data (with_chunk totals n extension) n)) is.size
    ∙ run_content c.content rest (with_chunk totals (length c.content) extension)

run_chunk : (c : Chunk) (totals : ChunkTotals) (rest : List ℕ) → IsChunk c → FitsMore totals (length c.content) (extension_len c.line)
    → run (print_chunk c ++ rest) (Line totals first_front) ≡ run rest (Line (with_chunk totals (length c.content) (extension_len c.line)) first_front)
run_chunk c totals rest is fits =
    ap (λ xs. run xs (Line totals first_front)) (append_assoc (print_chunk_line c.line) (c.content ++ 13 ∷ 10 ∷ []) rest
    ∙ ap (λ xs. print_chunk_line c.line ++ xs) (append_assoc c.content (13 ∷ 10 ∷ []) rest))
    ∙ run_to_end c totals (13 ∷ 10 ∷ rest) is fits

content_cons : (c : Chunk) (chunks : List Chunk) → content_len (c ∷ chunks) ≡ length c.content + content_len chunks
content_cons c chunks = sum_by-cons (λ (d : Chunk). length d.content) c chunks

extensions_cons : (c : Chunk) (chunks : List Chunk) → extensions_len (c ∷ chunks) ≡ extension_len c.line + extensions_len chunks
extensions_cons c chunks = sum_by-cons (λ (d : Chunk). extension_len d.line) c chunks

-- what the chunks have in all
abbrev pub totals_of : List Chunk → ChunkTotals
totals_of chunks = record { content = content_len chunks; extensions = extensions_len chunks }

-- equal counts are equal totals
same_totals : (a b c d : ℕ) (rest : List ℕ) → a ≡ b → c ≡ d → run rest (Line (record { content = a; extensions = c }) first_front) ≡ run rest (Line (record { content = b; extensions = d }) first_front)
same_totals a b c d rest contents extensions = λ i. run rest (Line (record { content = contents i; extensions = extensions i }) first_front)

run_chunks_from : (chunks : List Chunk) (totals : ChunkTotals) (rest : List ℕ) → All IsChunk chunks → FitsMore totals (content_len chunks) (extensions_len chunks)
    → run (print_chunks chunks ++ rest) (Line totals first_front) ≡ run rest (Line (with_chunk totals (content_len chunks) (extensions_len chunks)) first_front)
run_chunks_from [] totals rest all fits = same_totals totals.content (totals.content + 0) totals.extensions (totals.extensions + 0) rest (omega arith) (omega arith)
run_chunks_from (c ∷ chunks) totals rest all fits =
    let size = length c.content in
    let extension = extension_len c.line in
    let first : FitsMore totals size extension = (omega (arith, fits.0, content_cons c chunks), omega (arith, fits.1, extensions_cons c chunks)) in
    let others : FitsMore (with_chunk totals size extension) (content_len chunks) (extensions_len chunks) =
    (omega (arith, fits.0, content_cons c chunks), omega (arith, fits.1, extensions_cons c chunks)) in
    ap (λ xs. run xs (Line totals first_front)) (append_assoc (print_chunk c) (print_chunks chunks) rest)
    ∙ run_chunk c totals (print_chunks chunks ++ rest) (All-head IsChunk c chunks all) first
    ∙ run_chunks_from chunks (with_chunk totals size extension) rest (All-tail IsChunk c chunks all) others
    ∙ same_totals (totals.content + size + content_len chunks) (totals.content + content_len (c ∷ chunks)) (totals.extensions + extension + extensions_len chunks) (totals.extensions + extensions_len (c ∷ chunks)) rest
    (omega (arith, content_cons c chunks)) (omega (arith, extensions_cons c chunks))

-- chunks
pub run_chunks : (chunks : List Chunk) (rest : List ℕ) → AreChunks chunks
    → run (print_chunks chunks ++ rest) first_place ≡ run rest (Line (totals_of chunks) first_front)
run_chunks chunks rest are =
    run_chunks_from chunks no_totals rest are.each (omega (arith, are.sum), omega (arith, are.extensions))
    ∙ same_totals (0 + content_len chunks) (content_len chunks) (0 + extensions_len chunks) (extensions_len chunks) rest (omega arith) (omega arith)

no_size : (totals : ChunkTotals) (size extension : ℕ) → size ≡ 0 → totals.extensions + extension ≤ 16384 → behind_whole totals size extension ≡ On (Trailer 0 first_trailer)
no_size totals size extension none fits = grind (arith, nat_tests)

-- the chunks and the last line
pub run_all_chunks : (before rest : List ℕ) → IsChunkedData before → run (before ++ rest) first_place ≡ run rest (Trailer 0 first_trailer)
run_all_chunks before rest h =
    let totals = totals_of h.chunks in
    ap (λ xs. run (xs ++ rest) first_place) h.printed
    ∙ ap (λ xs. run xs first_place) (append_assoc (print_chunks h.chunks) (print_chunk_line h.last) rest)
    ∙ run_chunks h.chunks (print_chunk_line h.last ++ rest) h.are_chunks
    ∙ run_whole_line h.last totals rest h.is_line
    ∙ ap (λ m. run_on m rest) (no_size totals (chunk_size h.last) (extension_len h.last) h.zero h.extensions)

-- ---- trailer lines

-- the front of a line behind the last chunk, and where it leads
pub record LeadsTo (line : List ℕ) (count : ℕ) (from : TrailerFront) (before rest : List ℕ) : Type 0 where
  pub to : TrailerFront
  pub front : IsTrailerFront (before ++ line) to
  pub runs : run (line ++ rest) (Trailer count from) ≡ run rest (Trailer count to)

run_front : (line : List ℕ) (count : ℕ) (from : TrailerFront) (before rest : List ℕ) → IsTrailerFront before from → HasNoLineFeed line → length before + length line < 8190 → LeadsTo line count from before rest
run_front [] count from before rest h none short =
    record { to = from; front = subst (λ t. IsTrailerFront t from) (sym (append-nil before)) h; runs = refl }
run_front (b ∷ line) count from before rest h none short =
    let on = goes_on before from b h (All-head (λ c. c ≢ 10) b line none) (omega (arith, short)) in
    let further = run_front line count on.on (before ++ b ∷ []) rest on.front (All-tail (λ c. c ≢ 10) b line none) (omega (arith, short, length-append before (b ∷ []))) in
    record {
      to = further.to;
      front = subst (λ t. IsTrailerFront t further.to) (append_assoc before (b ∷ []) line) further.front;
      runs = ap (λ m. run_on (behind_trailer count m) (line ++ rest)) on.step_is ∙ further.runs;
    }

-- the front of such a line, from its first byte on
pub run_begun : (line rest : List ℕ) (count : ℕ) → IsTrailerBegun line → LeadsTo line count first_trailer [] rest
run_begun line rest count begun = run_front line count first_trailer [] rest first_is_trailer begun.one_line (omega (arith, begun.short))

-- a trailer line
run_trailer : (f : Field) (rest : List ℕ) (count : ℕ) → IsTrailer f
    → run (print_field f ++ rest) (Trailer count first_trailer) ≡ run_on (behind_trailer count IsWholeField) rest
run_trailer f rest count is =
    let text = text_of_field f is.is_field in
    let begun : IsTrailerBegun text.line = record { one_line = text.one_line; short = omega (arith, is.short, ap length text.printed, length-append text.line (10 ∷ [])) } in
    let leads = run_begun text.line (10 ∷ rest) count begun in
    ap (λ xs. run xs (Trailer count first_trailer)) (ap (λ xs. xs ++ rest) text.printed ∙ append_assoc text.line (10 ∷ []) rest)
    ∙ leads.runs
    ∙ ap (λ m. run_on (behind_trailer count m) rest)
    (field_move text.line f (trailer_step leads.to 10) begun is.is_field (sym text.printed) (trailer_means text.line leads.to 10 leads.front))

fits_step : (count : ℕ) → count < 100 → behind_trailer count IsWholeField ≡ On (Trailer (count + 1) first_trailer)
fits_step count few = grind (arith, nat_tests)

run_trailers_from : (fields : List Field) (rest : List ℕ) (count : ℕ) → All IsTrailer fields → count + length fields ≤ 100
    → run (print_trailers fields ++ rest) (Trailer count first_trailer) ≡ run rest (Trailer (count + length fields) first_trailer)
run_trailers_from [] rest count all few = ap (λ n. run rest (Trailer n first_trailer)) (omega arith)
run_trailers_from (f ∷ fields) rest count all few =
    ap (λ xs. run xs (Trailer count first_trailer)) (append_assoc (print_field f) (print_trailers fields) rest)
    ∙ run_trailer f (print_trailers fields ++ rest) count (All-head IsTrailer f fields all)
    ∙ ap (λ m. run_on m (print_trailers fields ++ rest)) (fits_step count (omega (arith, few)))
    ∙ run_trailers_from fields rest (count + 1) (All-tail IsTrailer f fields all) (omega (arith, few))
    ∙ ap (λ n. run rest (Trailer n first_trailer)) (omega arith)

-- trailer lines
pub run_trailers : (fields : List Field) (rest : List ℕ) → AreTrailers fields
    → run (print_trailers fields ++ rest) (Trailer 0 first_trailer) ≡ run rest (Trailer (length fields) first_trailer)
run_trailers fields rest are = run_trailers_from fields rest 0 are.each (omega (arith, are.few)) ∙ ap (λ n. run rest (Trailer n first_trailer)) (omega arith)

-- one trailer line too many
pub run_too_many : (fields : List Field) (rest : List ℕ) (count : ℕ) → All IsTrailer fields → count + length fields ≡ 101 → count ≤ 100
    → run (print_trailers fields ++ rest) (Trailer count first_trailer) ≡ Breaks 400
run_too_many [] rest count all many few = absurd (omega arith)
run_too_many (f ∷ fields) rest count all many few =
    ap (λ xs. run xs (Trailer count first_trailer)) (append_assoc (print_field f) (print_trailers fields) rest)
    ∙ run_trailer f (print_trailers fields ++ rest) count (All-head IsTrailer f fields all)
    ∙ elim (cases_lt count 100) [
      | inl fits ↦ ap (λ m. run_on m (print_trailers fields ++ rest)) (fits_step count fits)
          ∙ run_too_many fields rest (count + 1) (All-tail IsTrailer f fields all) (omega (arith, many)) (omega arith)
      | inr full ↦ ap (λ m. run_on m (print_trailers fields ++ rest)) (full_count count full)
    ]
  where
    full_count : (count : ℕ) → 100 ≤ count → behind_trailer count IsWholeField ≡ Bad 400
    full_count count full = grind (arith, nat_tests)

-- a line that is too long
pub run_too_long : (line : List ℕ) (z : ℕ) (rest : List ℕ) (count : ℕ) → HasNoLineFeed line → z ≢ 10 → length line ≡ 8189
    → run (line ++ (z ∷ rest)) (Trailer count first_trailer) ≡ Breaks 400
run_too_long line z rest count none no_lf len =
    let leads = run_begun line (z ∷ rest) count (record { one_line = none; short = omega (arith, len) }) in
    leads.runs ∙ ap (λ m. run_on (behind_trailer count m) rest) (full_step leads.to z no_lf (omega (arith, leads.front.len, len)))

-- a line that is neither a field line nor the empty line
pub run_no_trailer : (bytes : List ℕ) (count : ℕ) → HasNoTrailer bytes → run bytes (Trailer count first_trailer) ≡ Breaks 400
run_no_trailer bytes count h =
    let leads = run_begun h.line (10 ∷ h.behind) count h.begun in
    ap (λ xs. run xs (Trailer count first_trailer)) h.bytes_are
    ∙ leads.runs
    ∙ ap (λ m. run_on (behind_trailer count m) h.behind)
    (broken_move h.line (trailer_step leads.to 10) h.begun h.no_field h.no_end (trailer_means h.line leads.to 10 leads.front))

-- the empty line
pub run_empty_line : (end : LineEnd) (rest : List ℕ) (count : ℕ) → run (print_end end ++ rest) (Trailer count first_trailer) ≡ Ended rest
run_empty_line end rest count =
    let (line, begun, printed) = cr_begun end in
    let leads = run_begun line (10 ∷ rest) count begun in
    ap (λ xs. run xs (Trailer count first_trailer)) (ap (λ xs. xs ++ rest) printed ∙ append_assoc line (10 ∷ []) rest)
    ∙ leads.runs
    ∙ ap (λ m. run_on (behind_trailer count m) rest)
    (empty_move line end (trailer_step leads.to 10) begun (sym printed) (trailer_means line leads.to 10 leads.front))
