-- Bytes have one form of a body of each kind: that to which the single bytes lead.
use Rattle.std.proofs.Common.{◌≡◌, ◌≢◌, ℕ, ◌+◌, ◌-◌, ◌<◌, ◌≤◌, ◌⊎◌, inl, inr, List, [], ◌∷◌, ◌++◌, length, take, drop, refl, sym, ap, ◌∙◌, subst, arith, append_assoc, length-append, length-drop}
use Rattle.std.specs.Prelude.{All, ◌==◌}
use Rattle.std.proofs.lemmas.Bool.{cases_lt}
use Rattle.std.proofs.lemmas.Bool.Decides.{nat_tests}
use Rattle.std.proofs.lemmas.List.{append-nil, take-append-drop, take-append-le, length-take-le, drop_all}
use Rattle.std.proofs.lemmas.List.Elements.{All-head, All-take, All-drop}
use Rattle.std.proofs.Math.Seq.{drop-append_seam, take-append_seam}
use Rattle.httparse.specs.Grammar.{print_end, print_chunk_line, chunk_size}
use Rattle.http_read.specs.declared.request.BodyKind.{BodyKind}
use Rattle.http_read.specs.declared.request.BodyKind.TheVariants as kind
use Rattle.http_read.specs.declared.chunked.ChunkedPlace.{ChunkedPlace}
use Rattle.http_read.specs.declared.chunked.ChunkedPlace.TheVariants.{Line, Data, DataLineFeed, Trailer}
use Rattle.http_read.specs.declared.chunked.ChunkTotals.{ChunkTotals}
use Rattle.http_read.specs.ChunkLines.{Chunk, IsChunk, print_chunks, content_len, extension_len, extensions_len, AreChunks}
use Rattle.http_read.specs.TrailerLines.{HasNoLineFeed, IsTrailer, AreTrailers, IsTrailerTooLong, HasNoTrailer, print_trailers}
use Rattle.http_read.specs.BodyForm.{IsChunkedBody, IsBody, BeginsBody, EndsInChunkLine, EndsInChunk, EndsInTrailer, IsChunkedFront, BreaksAtLine, BreaksAtExtension, BreaksAtSum, BreaksAtChunkEnd, BreaksAtTrailer, BreaksBody, BodyForm, WholeBody, BodyFront, BrokenBody, HasForm}
use Rattle.http_read.specs.BodyPlaces.{chunked_begun_len}
use Rattle.http_read.specs.ChunkStepsInside.{Outcome, Open, Ended, Breaks, first_front, first_place, first_trailer, no_totals, run, run_on}
use Rattle.http_read.proofs.ChunkStepLemmas.{run_data}
use Rattle.http_read.proofs.ChunkLineLemmas.{on_test}
use Rattle.http_read.proofs.ChunkLineRuns.{body_of_line, run_line, still_line, lost_line}
use Rattle.http_read.proofs.ChunkedLemmas.{first_stands, content_push, extensions_push}
use Rattle.http_read.proofs.BodyFormLemmas.{OutcomeMeans, run_means, stands_in_line, breaks_more}
use Rattle.http_read.proofs.FeedLemmas.{line_left}
use Rattle.http_read.proofs.ChunkedRuns.{FitsMore, with_chunk, totals_of, run_whole_line, line_above, line_beyond, run_chunk_line, run_content, run_to_end, run_chunks, run_all_chunks, run_begun, run_trailers, run_too_many, run_too_long, run_no_trailer, run_empty_line}

-- the form of bytes by what became of the body
abbrev form_by : List ℕ → Outcome → BodyForm
form_by bytes (Open p) = BodyFront (drop (length bytes - chunked_begun_len p) bytes)
form_by bytes (Ended rest) = WholeBody (length bytes - length rest)
form_by bytes (Breaks code) = BrokenBody code

-- ---- it has that form

whole_by : (bytes here rest : List ℕ) → bytes ≡ here ++ rest → IsChunkedBody here → BeginsBody kind.Chunked bytes (length bytes - length rest)
whole_by bytes here rest split body =
    let len : length here ≡ length bytes - length rest = omega (arith, ap length split, length-append here rest) in
    let front : take (length bytes - length rest) bytes ≡ here =
    ap (λ n. take n bytes) (sym len) ∙ ap (λ xs. take (length here) xs) split ∙ take-append_seam here rest in
    record { within = omega arith; body = subst IsChunkedBody (sym front) body }

has_by : (bytes : List ℕ) (o : Outcome) → OutcomeMeans [] bytes o → HasForm kind.Chunked bytes (form_by bytes o)
has_by bytes (Open p) h =
    let e = stands_in_line bytes p h in
    let fits : length e.line ≤ length bytes = omega (arith, ap length e.split, length-append e.before e.line) in
    let rest : drop (length bytes - chunked_begun_len p) bytes ≡ e.line =
    ap (λ n. drop (length bytes - n) bytes) (sym e.len) ∙ line_left [] bytes e.before e.line e.split fits in
    subst (IsChunkedFront bytes) (sym rest) e.front
has_by bytes (Ended rest) (here, split, body) = whole_by bytes here rest split body
has_by bytes (Breaks code) h = h

chunked_form : List ℕ → BodyForm
chunked_form bytes = form_by bytes (run bytes first_place)

chunked_has : (bytes : List ℕ) → HasForm kind.Chunked bytes (chunked_form bytes)
unfolding chunked_form
chunked_has bytes =
    has_by bytes (run bytes first_place)
    (run_means bytes [] first_place (first_stands [] [] no_totals (record { each = λ k d h. absurd (omega arith); sum = omega arith; extensions = omega arith }) (record { content_is = refl; extensions_is = refl }) refl))

-- ---- it has no other

whole_run : (bytes here rest : List ℕ) → bytes ≡ here ++ rest → IsChunkedBody here → run bytes first_place ≡ Ended rest
whole_run bytes here rest split h =
    ap (λ xs. run xs first_place) (split ∙ ap (λ xs. xs ++ rest) h.printed
    ∙ append_assoc h.before (print_trailers h.trailers ++ print_end h.end) rest
    ∙ ap (λ xs. h.before ++ xs) (append_assoc (print_trailers h.trailers) (print_end h.end) rest))
    ∙ run_all_chunks h.before (print_trailers h.trailers ++ (print_end h.end ++ rest)) h.is_data
    ∙ run_trailers h.trailers (print_end h.end ++ rest) h.are_trailers
    ∙ run_empty_line h.end rest (length h.trailers)

one_whole : (bytes : List ℕ) (n : ℕ) → BeginsBody kind.Chunked bytes n → WholeBody n ≡ chunked_form bytes
unfolding chunked_form
one_whole bytes n h =
    let len : n ≡ length bytes - length (drop n bytes) = omega (arith, length-drop n bytes, h.within) in
    ap WholeBody len ∙ sym (ap (form_by bytes) (whole_run bytes (take n bytes) (drop n bytes) (sym (take-append-drop n bytes)) h.body))

-- the bytes lead to a place, and these are the last of them
front_by : (bytes before line : List ℕ) (p : ChunkedPlace) → bytes ≡ before ++ line → run bytes first_place ≡ Open p
    → chunked_begun_len p ≡ length line → BodyFront line ≡ chunked_form bytes
unfolding chunked_form
front_by bytes before line p split is begun =
    let fits : length line ≤ length bytes = omega (arith, ap length split, length-append before line) in
    ap BodyFront (sym (line_left [] bytes before line split fits) ∙ ap (λ n. drop (length bytes - n) bytes) (sym begun))
    ∙ sym (ap (form_by bytes) is)

one_line_front : (bytes line : List ℕ) → EndsInChunkLine bytes line → BodyFront line ≡ chunked_form bytes
one_line_front bytes line h =
    let (f, still, len) = still_line line h.begun in
    front_by bytes (print_chunks h.chunks) line (Line (totals_of h.chunks) f) h.printed
    (ap (λ xs. run xs first_place) h.printed ∙ run_chunks h.chunks line h.are_chunks
    ∙ run_line line (totals_of h.chunks) first_front ∙ ap (body_of_line (totals_of h.chunks)) still)
    len

one_trailer_front : (bytes line : List ℕ) → EndsInTrailer bytes line → BodyFront line ≡ chunked_form bytes
one_trailer_front bytes line h =
    let count = length h.trailers in
    let leads = run_begun line [] count h.begun in
    front_by bytes (h.before ++ print_trailers h.trailers) line (Trailer count leads.to)
    (h.printed ∙ sym (append_assoc h.before (print_trailers h.trailers) line))
    (ap (λ xs. run xs first_place) h.printed ∙ run_all_chunks h.before (print_trailers h.trailers ++ line) h.is_data
    ∙ run_trailers h.trailers line h.are_trailers
    ∙ ap (λ xs. run xs (Trailer count first_trailer)) (sym (append-nil line))
    ∙ leads.runs)
    leads.front.len

-- the last of the chunks
last_chunk : (chunks : List Chunk) (c : Chunk) → AreChunks (chunks ++ c ∷ [])
    → AreChunks chunks × IsChunk c × ((content_len chunks + length c.content ≤ 1073741824) × (extensions_len chunks + extension_len c.line ≤ 16384))
last_chunk chunks c are =
    let sums : content_len chunks + length c.content ≤ 1073741824 = omega (arith, are.sum, content_push chunks c) in
    let extended : extensions_len chunks + extension_len c.line ≤ 16384 = omega (arith, are.extensions, extensions_push chunks c) in (
      record {
        each = subst (All IsChunk) (take-append_seam chunks (c ∷ [])) (All-take IsChunk (length chunks) (chunks ++ c ∷ []) are.each);
        sum = omega arith;
        extensions = omega arith;
      },
      All-head IsChunk c [] (subst (All IsChunk) (drop-append_seam chunks (c ∷ [])) (All-drop IsChunk (length chunks) (chunks ++ c ∷ []) are.each)),
      (sums, extended),
    )

-- the front of the data and its CRLF leads to a place with nothing behind it
data_front : (here missing content : List ℕ) (totals : ChunkTotals) → content ++ (13 ∷ 10 ∷ []) ≡ here ++ missing → 0 < length missing
    → (p : ChunkedPlace) × (run here (Data totals (length content)) ≡ Open p) × (chunked_begun_len p ≡ 0)
data_front here missing content totals whole some =
    let lens = ap length whole in
    elim (cases_lt (length content) (length here)) [
      | inl beyond ↦
          let n : length here ≡ length content + 1 = omega (arith, lens, length-append content (13 ∷ 10 ∷ []), length-append here missing) in
          let is : here ≡ content ++ 13 ∷ [] = front_of here missing (content ++ 13 ∷ []) (10 ∷ []) (sym whole ∙ sym (append_assoc content (13 ∷ []) (10 ∷ []))) (omega (arith, n, length-append content (13 ∷ []))) in
          (DataLineFeed totals, ap (λ xs. run xs (Data totals (length content))) is ∙ run_content content (13 ∷ []) totals, refl)
      | inr within ↦ (
        Data totals (length content - length here),
        run_data here (length here) totals (length content) (omega arith) within
            ∙ ap (λ xs. run xs (Data totals (length content - length here))) (drop_all (length here) here (omega arith)),
        refl,
      )
    ]
  where
    front_of : (xs ys us vs : List ℕ) → xs ++ ys ≡ us ++ vs → length xs ≡ length us → xs ≡ us
    front_of xs ys us vs e len = sym (take-append_seam xs ys) ∙ ap (λ zs. take (length xs) zs) e ∙ ap (λ n. take n (us ++ vs)) len ∙ take-append_seam us vs

one_data_front : (bytes : List ℕ) → EndsInChunk bytes → BodyFront [] ≡ chunked_form bytes
one_data_front bytes h =
    let (are, is, fits) = last_chunk h.chunks h.chunk h.are_chunks in
    let totals = totals_of h.chunks in
    let c = h.chunk in
    let extension = extension_len c.line in
    let size : FitsMore totals (chunk_size c.line) extension = subst (λ n. FitsMore totals n extension) (sym is.size) fits in
    let (p, runs, begun) = data_front h.here h.missing c.content (with_chunk totals (length c.content) extension) h.whole h.some in
    front_by bytes bytes [] p (sym (append-nil bytes))
    (ap (λ xs. run xs first_place) h.printed ∙ run_chunks h.chunks (print_chunk_line c.line ++ h.here) are
    ∙ run_chunk_line c.line totals h.here is.line (omega (arith, is.size, is.some)) size
    ∙ ap (λ n. run h.here (Data (with_chunk totals n extension) n)) is.size ∙ runs)
    begun

broken_by : (bytes : List ℕ) (code : ℕ) → run bytes first_place ≡ Breaks code → BrokenBody code ≡ chunked_form bytes
unfolding chunked_form
broken_by bytes code is = sym (ap (form_by bytes) is)

at_line : (bytes : List ℕ) (code : ℕ) → BreaksAtLine bytes code → run bytes first_place ≡ Breaks 400
at_line bytes code h =
    ap (λ xs. run xs first_place) h.printed ∙ run_chunks h.chunks h.rest h.are_chunks
    ∙ run_line h.rest (totals_of h.chunks) first_front ∙ ap (body_of_line (totals_of h.chunks)) (lost_line h.rest h.breaks)

at_extension : (bytes : List ℕ) (code : ℕ) → BreaksAtExtension bytes code → run bytes first_place ≡ Breaks 400
at_extension bytes code h =
    let totals = totals_of h.chunks in
    ap (λ xs. run xs first_place) h.printed ∙ run_chunks h.chunks (print_chunk_line h.line ++ h.rest) h.are_chunks
    ∙ run_whole_line h.line totals h.rest h.is_line
    ∙ ap (λ m. run_on m h.rest) (line_beyond totals (chunk_size h.line) (extension_len h.line) h.are_chunks.extensions h.above)

at_sum : (bytes : List ℕ) (code : ℕ) → BreaksAtSum bytes code → run bytes first_place ≡ Breaks 413
at_sum bytes code h =
    let totals = totals_of h.chunks in
    ap (λ xs. run xs first_place) h.printed ∙ run_chunks h.chunks (print_chunk_line h.line ++ h.rest) h.are_chunks
    ∙ run_whole_line h.line totals h.rest h.is_line
    ∙ ap (λ m. run_on m h.rest) (line_above totals (chunk_size h.line) (extension_len h.line) h.are_chunks.sum h.extensions h.above)

-- other bytes than CRLF
no_crlf : (rest : List ℕ) (totals : ChunkTotals) → ((more behind : List ℕ) → ¬ (rest ++ more ≡ 13 ∷ 10 ∷ behind)) → run rest (Data totals 0) ≡ Breaks 400
no_crlf [] totals none = absurd (none (13 ∷ 10 ∷ []) [] refl)
no_crlf (b ∷ []) totals none =
    on_test (λ m. run_on m [] ≡ Breaks 400) (b == 13) _ _
    (λ cr. let is : b ≡ 13 = grind (arith, nat_tests) in absurd (none (10 ∷ []) [] (ap (λ v. v ∷ 10 ∷ []) is)))
    (λ other. refl)
no_crlf (b ∷ d ∷ rest) totals none =
    on_test (λ m. run_on m (d ∷ rest) ≡ Breaks 400) (b == 13) _ _
    (λ cr. let is : b ≡ 13 = grind (arith, nat_tests) in
    on_test (λ m. run_on m rest ≡ Breaks 400) (d == 10) _ _
    (λ feed. let also : d ≡ 10 = grind (arith, nat_tests) in absurd (none [] rest (append-nil (b ∷ d ∷ rest) ∙ λ i. is i ∷ also i ∷ rest)))
    (λ other. refl))
    (λ other. refl)

at_chunk_end : (bytes : List ℕ) (code : ℕ) → BreaksAtChunkEnd bytes code → run bytes first_place ≡ Breaks 400
at_chunk_end bytes code h =
    let (are, is, fits) = last_chunk h.chunks h.chunk h.are_chunks in
    let c = h.chunk in
    ap (λ xs. run xs first_place) h.printed ∙ run_chunks h.chunks (print_chunk_line c.line ++ (c.content ++ h.rest)) are
    ∙ run_to_end c (totals_of h.chunks) h.rest is fits ∙ no_crlf h.rest (with_chunk (totals_of h.chunks) (length c.content) (extension_len c.line)) h.no_end

too_long_run : (rest : List ℕ) (count : ℕ) → IsTrailerTooLong rest → run rest (Trailer count first_trailer) ≡ Breaks 400
too_long_run rest count h = split_last (take 8189 rest) (drop 8189 rest) (sym (take-append-drop 8189 rest)) (length-take-le 8189 rest (omega (arith, h.long)))
  where
    split_last : (front behind : List ℕ) → rest ≡ front ++ behind → length front ≡ 8189 → run rest (Trailer count first_trailer) ≡ Breaks 400
    split_last front [] e len = absurd (omega (arith, ap length e, length-append front [], h.long))
    split_last front (z ∷ behind) e len =
        let seam : length (front ++ z ∷ []) ≡ 8190 = omega (arith, len, length-append front (z ∷ [])) in
        let shown : take 8190 rest ≡ front ++ z ∷ [] = ap (λ xs. take 8190 xs) (e ∙ sym (append_assoc front (z ∷ []) behind))
        ∙ ap (λ n. take n ((front ++ z ∷ []) ++ behind)) (sym seam) ∙ take-append_seam (front ++ z ∷ []) behind in
        let none = subst HasNoLineFeed shown h.one_line in
        let none_front = subst HasNoLineFeed (take-append_seam front (z ∷ [])) (All-take (λ c. c ≢ 10) (length front) (front ++ z ∷ []) none) in
        let none_last = subst HasNoLineFeed (drop-append_seam front (z ∷ [])) (All-drop (λ c. c ≢ 10) (length front) (front ++ z ∷ []) none) in
        ap (λ xs. run xs (Trailer count first_trailer)) e ∙ run_too_long front z behind count none_front (All-head (λ c. c ≢ 10) z [] none_last) len

at_trailer : (bytes : List ℕ) (code : ℕ) → BreaksAtTrailer bytes code → run bytes first_place ≡ Breaks 400
at_trailer bytes code h =
    ap (λ xs. run xs first_place) h.printed ∙ run_all_chunks h.before (print_trailers h.trailers ++ h.rest) h.is_data ∙ by_break h.breaks
  where
    by_break : ((AreTrailers h.trailers × (IsTrailerTooLong h.rest ⊎ HasNoTrailer h.rest)) ⊎ ((length h.trailers ≡ 101) × All IsTrailer h.trailers))
        → run (print_trailers h.trailers ++ h.rest) (Trailer 0 first_trailer) ≡ Breaks 400
    by_break (inl (are, inl long)) = run_trailers h.trailers h.rest are ∙ too_long_run h.rest (length h.trailers) long
    by_break (inl (are, inr none)) = run_trailers h.trailers h.rest are ∙ run_no_trailer h.rest (length h.trailers) none
    by_break (inr (many, each)) = run_too_many h.trailers h.rest 0 each (omega (arith, many)) (omega arith)

chunked_one : (bytes : List ℕ) (form : BodyForm) → HasForm kind.Chunked bytes form → form ≡ chunked_form bytes
chunked_one bytes (WholeBody n) h = one_whole bytes n h
chunked_one bytes (BodyFront line) (inl h) = one_line_front bytes line h
chunked_one bytes (BodyFront line) (inr (inl (h, empty))) = ap BodyFront empty ∙ one_data_front bytes h
chunked_one bytes (BodyFront line) (inr (inr h)) = one_trailer_front bytes line h
chunked_one bytes (BrokenBody code) (inl h) = ap BrokenBody h.code_is ∙ broken_by bytes 400 (at_line bytes code h)
chunked_one bytes (BrokenBody code) (inr (inl h)) = ap BrokenBody h.code_is ∙ broken_by bytes 400 (at_extension bytes code h)
chunked_one bytes (BrokenBody code) (inr (inr (inl h))) = ap BrokenBody h.code_is ∙ broken_by bytes 413 (at_sum bytes code h)
chunked_one bytes (BrokenBody code) (inr (inr (inr (inl h)))) = ap BrokenBody h.code_is ∙ broken_by bytes 400 (at_chunk_end bytes code h)
chunked_one bytes (BrokenBody code) (inr (inr (inr (inr h)))) = ap BrokenBody h.code_is ∙ broken_by bytes 400 (at_trailer bytes code h)

-- ---- the laws

-- bytes have some form
pub some_form : (of : BodyKind) (bytes : List ℕ) → (form : BodyForm) × HasForm of bytes form
some_form kind.Nothing bytes = (WholeBody 0, record { within = omega arith; body = refl })
some_form (kind.Length m) bytes =
    elim (cases_lt (length bytes) m) [
      | inl short ↦ (BodyFront [], (short, refl))
      | inr enough ↦ (WholeBody m, record { within = enough; body = length-take-le m bytes enough })
    ]
some_form kind.Chunked bytes = (chunked_form bytes, chunked_has bytes)

whole_length : (bytes : List ℕ) (n m : ℕ) → n ≤ length bytes → length (take n bytes) ≡ m → n ≡ m
whole_length bytes n m within len = sym (length-take-le n bytes within) ∙ len

-- and no two
pub same_forms : (of : BodyKind) (bytes : List ℕ) (form other : BodyForm) → HasForm of bytes form → HasForm of bytes other → form ≡ other
same_forms kind.Nothing bytes (WholeBody n) (WholeBody m) x y =
    ap WholeBody (whole_length bytes n 0 x.within (ap length x.body) ∙ sym (whole_length bytes m 0 y.within (ap length y.body)))
same_forms kind.Nothing bytes (WholeBody n) (BodyFront line) x y = absurd y
same_forms kind.Nothing bytes (WholeBody n) (BrokenBody code) x y = absurd y
same_forms kind.Nothing bytes (BodyFront line) other x y = absurd x
same_forms kind.Nothing bytes (BrokenBody code) other x y = absurd x
same_forms (kind.Length k) bytes (WholeBody n) (WholeBody m) x y =
    ap WholeBody (whole_length bytes n k x.within x.body ∙ sym (whole_length bytes m k y.within y.body))
same_forms (kind.Length k) bytes (WholeBody n) (BodyFront line) x y = absurd (omega (arith, whole_length bytes n k x.within x.body, x.within, y.0))
same_forms (kind.Length k) bytes (BodyFront line) (WholeBody m) x y = absurd (omega (arith, whole_length bytes m k y.within y.body, y.within, x.0))
same_forms (kind.Length k) bytes (BodyFront line) (BodyFront behind) x y = ap BodyFront (x.1 ∙ sym y.1)
same_forms (kind.Length k) bytes (WholeBody n) (BrokenBody code) x y = absurd y
same_forms (kind.Length k) bytes (BodyFront line) (BrokenBody code) x y = absurd y
same_forms (kind.Length k) bytes (BrokenBody code) other x y = absurd x
same_forms kind.Chunked bytes form other x y = chunked_one bytes form x ∙ sym (chunked_one bytes other y)

-- a whole body stays one whatever follows
pub whole_more : (of : BodyKind) (bytes more : List ℕ) (n : ℕ) → BeginsBody of bytes n → BeginsBody of (bytes ++ more) n
whole_more of bytes more n h = record {
  within = omega (arith, h.within, length-append bytes more);
  body = subst (IsBody of) (sym (take-append-le n bytes more h.within)) h.body;
}

-- and so does a break
pub broken_more : (of : BodyKind) (bytes more : List ℕ) (code : ℕ) → BreaksBody of bytes code → BreaksBody of (bytes ++ more) code
broken_more kind.Nothing bytes more code h = absurd h
broken_more (kind.Length n) bytes more code h = absurd h
broken_more kind.Chunked bytes more code h = breaks_more bytes more code h
