-- A break of the form stays whatever follows, and what the bytes of a chunked body make of it.
use Rattle.std.proofs.Common.{◌≡◌, ℕ, ◌+◌, ◌⊎◌, inl, inr, List, [], ◌∷◌, ◌++◌, length, refl, sym, ap, ◌∙◌, subst, arith, append_assoc, length-append}
use Rattle.std.proofs.lemmas.List.{append-nil, take-append-le, length-replicate}
use Rattle.std.specs.Prelude.{All, replicate}
use Rattle.httparse.specs.Grammar.{print_chunk_line, HasNoChunkLine}
use Rattle.httparse.proofs.PieceLemmas.{front-append}
use Rattle.http_read.specs.declared.trailer_line.TrailerFront.{TrailerFront}
use Rattle.http_read.specs.declared.chunked.ChunkTotals.{ChunkTotals}
use Rattle.http_read.specs.declared.chunked.ChunkedPlace.{ChunkedPlace}
use Rattle.http_read.specs.declared.chunked.ChunkedPlace.TheVariants.{Line, Data, DataLineFeed, Trailer}
use Rattle.http_read.specs.declared.chunked.ChunkedMove.{ChunkedMove}
use Rattle.http_read.specs.declared.chunked.ChunkedMove.TheVariants.{On, Done, Bad}
use Rattle.http_read.specs.ChunkLines.{IsChunk, Chunk, BreaksChunkLine, print_chunks}
use Rattle.http_read.specs.TrailerLines.{HasNoLineFeed, IsTrailer, AreTrailers, IsTrailerTooLong, HasNoTrailer, print_trailers}
use Rattle.http_read.specs.BodyForm.{IsChunkedBody, BreaksChunked, IsChunkedFront}
use Rattle.http_read.specs.BodyPlaces.{StandsInData, StandsInTrailers, StandsInChunked, chunked_begun_len}
use Rattle.http_read.specs.ChunkStepsInside.{chunked_step, Outcome, Open, Ended, Breaks, run, run_on}
use Rattle.http_read.proofs.ChunkLineLemmas.{front_begun}
use Rattle.http_read.proofs.ChunkedLemmas.{MoveMeans, move_means, chunks_push}

-- ---- a break stays

pub line_breaks_more : (rest more : List ℕ) → BreaksChunkLine rest → BreaksChunkLine (rest ++ more)
line_breaks_more rest more (inl never) = inl (λ behind. subst HasNoChunkLine (sym (append_assoc rest more behind)) (never (more ++ behind)))
line_breaks_more rest more (inr (long, none)) = inr (omega (arith, length-append rest more), subst HasNoChunkLine (sym (take-append-le 1024 rest more long)) none)

trailer_too_long_more : (rest more : List ℕ) → IsTrailerTooLong rest → IsTrailerTooLong (rest ++ more)
trailer_too_long_more rest more h = record {
  long = omega (arith, length-append rest more, h.long);
  one_line = subst HasNoLineFeed (sym (take-append-le 8190 rest more h.long)) h.one_line;
}

no_trailer_more : (rest more : List ℕ) → HasNoTrailer rest → HasNoTrailer (rest ++ more)
no_trailer_more rest more h = record {
  line = h.line;
  behind = h.behind ++ more;
  begun = h.begun;
  no_field = h.no_field;
  no_end = h.no_end;
  bytes_are = ap (λ t. t ++ more) h.bytes_are ∙ append_assoc h.line (10 ∷ h.behind) more;
}

behind_two : (t more first second rest : List ℕ) → t ≡ first ++ (second ++ rest) → t ++ more ≡ first ++ (second ++ (rest ++ more))
behind_two t more first second rest e =
    front-append t first (second ++ rest) more e ∙ ap (λ xs. first ++ xs) (append_assoc second rest more)

-- what breaks the form stays so, whatever follows
pub breaks_more : (t more : List ℕ) (code : ℕ) → BreaksChunked t code → BreaksChunked (t ++ more) code
breaks_more t more code (inl h) = inl (record {
  chunks = h.chunks;
  rest = h.rest ++ more;
  are_chunks = h.are_chunks;
  breaks = line_breaks_more h.rest more h.breaks;
  printed = front-append t (print_chunks h.chunks) h.rest more h.printed;
  code_is = h.code_is;
})
breaks_more t more code (inr (inl h)) = inr (inl (record {
  chunks = h.chunks;
  line = h.line;
  rest = h.rest ++ more;
  are_chunks = h.are_chunks;
  is_line = h.is_line;
  above = h.above;
  printed = behind_two t more (print_chunks h.chunks) (print_chunk_line h.line) h.rest h.printed;
  code_is = h.code_is;
}))
breaks_more t more code (inr (inr (inl h))) = inr (inr (inl (record {
  chunks = h.chunks;
  line = h.line;
  rest = h.rest ++ more;
  are_chunks = h.are_chunks;
  is_line = h.is_line;
  extensions = h.extensions;
  above = h.above;
  printed = behind_two t more (print_chunks h.chunks) (print_chunk_line h.line) h.rest h.printed;
  code_is = h.code_is;
})))
breaks_more t more code (inr (inr (inr (inl h)))) = inr (inr (inr (inl (record {
  chunks = h.chunks;
  chunk = h.chunk;
  rest = h.rest ++ more;
  are_chunks = h.are_chunks;
  no_end = λ further behind e. h.no_end (more ++ further) behind (sym (append_assoc h.rest more further) ∙ e);
  printed = behind_two t more (print_chunks h.chunks) (print_chunk_line h.chunk.line) (h.chunk.content ++ h.rest) h.printed
      ∙ ap (λ xs. print_chunks h.chunks ++ (print_chunk_line h.chunk.line ++ xs)) (append_assoc h.chunk.content h.rest more);
  code_is = h.code_is;
}))))
breaks_more t more code (inr (inr (inr (inr h)))) = inr (inr (inr (inr (record {
  before = h.before;
  trailers = h.trailers;
  rest = h.rest ++ more;
  is_data = h.is_data;
  breaks = trailer_breaks h.breaks;
  printed = behind_two t more h.before (print_trailers h.trailers) h.rest h.printed;
  code_is = h.code_is;
}))))
  where
    trailer_breaks : ((AreTrailers h.trailers × (IsTrailerTooLong h.rest ⊎ HasNoTrailer h.rest)) ⊎ ((length h.trailers ≡ 101) × All IsTrailer h.trailers))
        → (AreTrailers h.trailers × (IsTrailerTooLong (h.rest ++ more) ⊎ HasNoTrailer (h.rest ++ more))) ⊎ ((length h.trailers ≡ 101) × All IsTrailer h.trailers)
    trailer_breaks (inl (are, inl long)) = inl (are, inl (trailer_too_long_more h.rest more long))
    trailer_breaks (inl (are, inr none)) = inl (are, inr (no_trailer_more h.rest more none))
    trailer_breaks (inr many) = inr many

-- ---- what bytes make of the body

-- what the outcome means, where the bytes s stood before these
abbrev pub OutcomeMeans : List ℕ → List ℕ → Outcome → Type 0
OutcomeMeans s bytes (Open p) = StandsInChunked (s ++ bytes) p
OutcomeMeans s bytes (Ended rest) = (here : List ℕ) × (bytes ≡ here ++ rest) × IsChunkedBody (s ++ here)
OutcomeMeans s bytes (Breaks code) = BreaksChunked (s ++ bytes) code

after_byte : (s : List ℕ) (b : ℕ) (bytes : List ℕ) (o : Outcome) → OutcomeMeans (s ++ b ∷ []) bytes o → OutcomeMeans s (b ∷ bytes) o
after_byte s b bytes (Open p) h = subst (λ xs. StandsInChunked xs p) (append_assoc s (b ∷ []) bytes) h
after_byte s b bytes (Ended rest) (here, split, body) =
    (b ∷ here, ap (λ xs. b ∷ xs) split, subst IsChunkedBody (append_assoc s (b ∷ []) here) body)
after_byte s b bytes (Breaks code) h = subst (λ xs. BreaksChunked xs code) (append_assoc s (b ∷ []) bytes) h

after_move : (s : List ℕ) (b : ℕ) (bytes : List ℕ) (m : ChunkedMove) → MoveMeans (s ++ b ∷ []) m
    → ((p : ChunkedPlace) → StandsInChunked (s ++ b ∷ []) p → OutcomeMeans (s ++ b ∷ []) bytes (run bytes p))
    → OutcomeMeans s (b ∷ bytes) (run_on m bytes)
after_move s b bytes (On p) h further = after_byte s b bytes (run bytes p) (further p h)
after_move s b bytes Done h further = (b ∷ [], refl, h)
after_move s b bytes (Bad code) h further =
    subst (λ xs. BreaksChunked xs code) (append_assoc s (b ∷ []) bytes) (breaks_more (s ++ b ∷ []) bytes code h)

-- what the bytes make of a chunked body
pub run_means : (bytes s : List ℕ) (p : ChunkedPlace) → StandsInChunked s p → OutcomeMeans s bytes (run bytes p)
run_means [] s p h = subst (λ xs. StandsInChunked xs p) (sym (append-nil s)) h
run_means (b ∷ bytes) s p h =
    after_move s b bytes (chunked_step p b) (move_means s p b h) (λ q stands. run_means bytes (s ++ b ∷ []) q stands)

-- ---- a body that stands somewhere is the front of one

pub record EndsInLine (t : List ℕ) (n : ℕ) : Type 0 where
  pub line : List ℕ
  pub before : List ℕ
  pub front : IsChunkedFront t line
  pub len : length line ≡ n
  pub split : t ≡ before ++ line

nothing_begun : (t : List ℕ) → IsChunkedFront t [] → EndsInLine t 0
nothing_begun t front = record { line = []; before = t; front = front; len = refl; split = sym (append-nil t) }

in_trailer : (t : List ℕ) (count : ℕ) (f : TrailerFront) (h : StandsInTrailers t count f) → EndsInLine t f.len
in_trailer t count f h = record {
  line = h.line;
  before = h.before ++ print_trailers h.trailers;
  front = inr (inr (record {
    before = h.before;
    trailers = h.trailers;
    is_data = h.is_data;
    are_trailers = h.are_trailers;
    begun = h.front.begun;
    printed = h.printed;
  }));
  len = sym h.front.len;
  split = h.printed ∙ sym (append_assoc h.before (print_trailers h.trailers) h.line);
}

in_data : (t : List ℕ) (totals : ChunkTotals) (left : ℕ) → StandsInData t totals left → IsChunkedFront t []
in_data t totals left h =
    let filler : List ℕ = replicate left 0 in
    let len : length (h.here ++ filler) ≡ length h.here + left = length-append h.here filler ∙ ap (λ n. length h.here + n) (length-replicate left 0) in
    let c : Chunk = record { line = h.line; content = h.here ++ filler } in
    let is_chunk : IsChunk c = record { line = h.is_line; size = omega (arith, len, h.size); some = omega (arith, len, h.size, h.some) } in
    inr (inl (
      record {
        chunks = h.chunks;
        chunk = c;
        here = h.here;
        missing = filler ++ (13 ∷ 10 ∷ []);
        are_chunks = chunks_push h.chunks c h.are_chunks is_chunk (omega (arith, len, h.size, h.content_is, h.content_fits)) (omega (arith, h.extensions_is, h.extensions_fit));
        whole = append_assoc h.here filler (13 ∷ 10 ∷ []);
        some = omega (arith, length-append filler (13 ∷ 10 ∷ []));
        printed = h.printed;
      },
      refl,
    ))

pub stands_in_line : (t : List ℕ) (p : ChunkedPlace) → StandsInChunked t p → EndsInLine t (chunked_begun_len p)
stands_in_line t (Line totals f) h = record {
  line = h.line;
  before = print_chunks h.chunks;
  front = inl (record { chunks = h.chunks; are_chunks = h.are_chunks; begun = front_begun h.line f h.front; printed = h.printed });
  len = sym h.front.len;
  split = h.printed;
}
stands_in_line t (Data totals left) h = nothing_begun t (in_data t totals left h)
stands_in_line t (DataLineFeed totals) h = nothing_begun t (inr (inl (
  record {
    chunks = h.chunks;
    chunk = h.chunk;
    here = h.chunk.content ++ 13 ∷ [];
    missing = 10 ∷ [];
    are_chunks = h.are_chunks;
    whole = sym (append_assoc h.chunk.content (13 ∷ []) (10 ∷ []));
    some = omega arith;
    printed = h.printed;
  },
  refl,
)))
stands_in_line t (Trailer count f) h = in_trailer t count f h
