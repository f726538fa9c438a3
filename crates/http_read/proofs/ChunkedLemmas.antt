-- What a byte makes of a chunked body is what the forms say of the longer bytes.
use Rattle.std.proofs.Common.{◌≡◌, ◌≢◌, ℕ, ◌+◌, ◌-◌, ◌≤◌, inl, inr, true, List, [], ◌∷◌, ◌++◌, length, refl, sym, ap, ◌∙◌, arith, append_assoc, length-append}
use Rattle.std.specs.Prelude.{◌==◌, nat_lt}
use Rattle.std.proofs.lemmas.Bool.Decides.{nat_tests}
use Rattle.std.proofs.lemmas.List.{append-nil}
use Rattle.std.proofs.lemmas.List.Elements.{All-push, All-nil}
use Rattle.std.proofs.lemmas.List.Sums.{sum_by-append}
use Rattle.std.proofs.lemmas.Grind.{flat_map-append}
use Rattle.std.specs.Char.{is_ascii_hexdigit}
use Rattle.httparse.specs.Grammar.{Field, print_field, ChunkLine, print_chunk_line, chunk_size}
use Rattle.httparse.proofs.PieceLemmas.{front-append}
use Rattle.http_read.specs.declared.chunk_line.ChunkLineFront.{ChunkLineFront}
use Rattle.http_read.specs.declared.chunk_line.ChunkLineMove.{ChunkLineMove}
use Rattle.http_read.specs.declared.chunk_line.ChunkLineMove.TheVariants.{Front, Whole, Broken}
use Rattle.http_read.specs.declared.trailer_line.TrailerFront.{TrailerFront}
use Rattle.http_read.specs.declared.trailer_line.TrailerMove.{TrailerMove}
use Rattle.http_read.specs.declared.trailer_line.TrailerMove.TheVariants.{Front as TrailerFurther, Field as IsWholeField, Empty, Broken as TrailerBroken}
use Rattle.http_read.specs.declared.chunked.ChunkTotals.{ChunkTotals}
use Rattle.http_read.specs.declared.chunked.ChunkedPlace.{ChunkedPlace}
use Rattle.http_read.specs.declared.chunked.ChunkedPlace.TheVariants.{Line, Data, DataLineFeed, Trailer}
use Rattle.http_read.specs.declared.chunked.ChunkedMove.{ChunkedMove}
use Rattle.http_read.specs.declared.chunked.ChunkedMove.TheVariants.{On, Done, Bad}
use Rattle.http_read.specs.ChunkLines.{IsShortLine, Chunk, IsChunk, print_chunk, print_chunks, content_len, extension_len, extensions_len, AreChunks}
use Rattle.http_read.specs.TrailerLines.{IsTrailer, print_trailers, AreTrailers}
use Rattle.http_read.specs.BodyForm.{IsChunkedData, IsChunkedBody, BreaksChunked}
use Rattle.http_read.specs.BodyPlaces.{AreTotals, StandsInLine, StandsInData, StandsInChunkEnd, StandsInTrailers, StandsInChunked}
use Rattle.http_read.specs.ChunkStepsInside.{first_front, first_trailer, line_step, behind_whole, behind_line, trailer_step, behind_trailer, chunked_step}
use Rattle.http_read.proofs.ChunkLineLemmas.{on_test, LineMeans, line_means}
use Rattle.http_read.proofs.TrailerLemmas.{TrailerMeans, trailer_means, first_is_trailer}

-- what a move means of the bytes up to it
abbrev pub MoveMeans : List ℕ → ChunkedMove → Type 0
MoveMeans t (On p) = StandsInChunked t p
MoveMeans t Done = IsChunkedBody t
MoveMeans t (Bad code) = BreaksChunked t code

-- ---- chunks

pub content_push : (chunks : List Chunk) (c : Chunk) → content_len (chunks ++ c ∷ []) ≡ content_len chunks + length c.content
content_push chunks c =
    let sums = sum_by-append (λ (d : Chunk). length d.content) chunks (c ∷ []) in
    omega (arith, sums)

pub extensions_push : (chunks : List Chunk) (c : Chunk) → extensions_len (chunks ++ c ∷ []) ≡ extensions_len chunks + extension_len c.line
extensions_push chunks c =
    let sums = sum_by-append (λ (d : Chunk). extension_len d.line) chunks (c ∷ []) in
    omega (arith, sums)

pub chunks_push : (chunks : List Chunk) (c : Chunk) → AreChunks chunks → IsChunk c
    → content_len chunks + length c.content ≤ 1073741824 → extensions_len chunks + extension_len c.line ≤ 16384 → AreChunks (chunks ++ c ∷ [])
chunks_push chunks c are is fits extend = record {
  each = All-push IsChunk chunks c are.each is;
  sum = omega (arith, content_push chunks c);
  extensions = omega (arith, extensions_push chunks c);
}

pub first_stands : (t : List ℕ) (chunks : List Chunk) (totals : ChunkTotals) → AreChunks chunks → AreTotals totals chunks
    → t ≡ print_chunks chunks → StandsInLine t totals first_front
first_stands t chunks totals are are_totals printed = record {
  chunks = chunks;
  line = [];
  are_chunks = are;
  are_totals = are_totals;
  front = record { len = refl; short = omega arith; ends = (omega arith, All-nil (λ b. is_ascii_hexdigit b ≡ true), refl, refl) };
  printed = printed ∙ sym (append-nil (print_chunks chunks));
}

-- ---- the line of a chunk

no_trailers : AreTrailers []
no_trailers = record { each = All-nil IsTrailer; few = omega arith }

last_line : (t : List ℕ) → IsChunkedData t → MoveMeans t (On (Trailer 0 first_trailer))
last_line t is_data = record {
  before = t;
  trailers = [];
  line = [];
  is_data = is_data;
  are_trailers = no_trailers;
  count_is = refl;
  front = first_is_trailer;
  printed = sym (append-nil t);
}

whole_means : (s : List ℕ) (totals : ChunkTotals) (size extension b : ℕ) (f : ChunkLineFront) (h : StandsInLine s totals f) (l : ChunkLine) → IsShortLine l → chunk_size l ≡ size
    → extension_len l ≡ extension → h.line ++ b ∷ [] ≡ print_chunk_line l → MoveMeans (s ++ b ∷ []) (behind_whole totals size extension)
whole_means s totals size extension b f h l is_line size_is extension_is line =
    let printed : s ++ b ∷ [] ≡ print_chunks h.chunks ++ print_chunk_line l =
    front-append s (print_chunks h.chunks) h.line (b ∷ []) h.printed ∙ ap (λ xs. print_chunks h.chunks ++ xs) line in
    let behind : s ++ b ∷ [] ≡ print_chunks h.chunks ++ (print_chunk_line l ++ []) =
    printed ∙ ap (λ xs. print_chunks h.chunks ++ xs) (sym (append-nil (print_chunk_line l))) in
    let sum_is = h.are_totals.content_is in
    let extended = h.are_totals.extensions_is in
    on_test (MoveMeans (s ++ b ∷ [])) (nat_lt (16384 - totals.extensions) extension) _ _
    (λ beyond. inr (inl (record {
      chunks = h.chunks;
      line = l;
      rest = [];
      are_chunks = h.are_chunks;
      is_line = is_line;
      above = grind (arith, nat_tests, extended, extension_is, h.are_chunks.extensions);
      printed = behind;
      code_is = refl;
    })))
    (λ few. let fits : extensions_len h.chunks + extension_len l ≤ 16384 = grind (arith, nat_tests, extended, extension_is, h.are_chunks.extensions) in
    on_test (MoveMeans (s ++ b ∷ [])) (size == 0) _ _
    (λ none. last_line (s ++ b ∷ []) (record {
      chunks = h.chunks;
      last = l;
      are_chunks = h.are_chunks;
      is_line = is_line;
      zero = grind (arith, nat_tests);
      extensions = fits;
      printed = printed;
    }))
    (λ some. on_test (MoveMeans (s ++ b ∷ [])) (nat_lt (1073741824 - totals.content) size) _ _
    (λ above. inr (inr (inl (record {
      chunks = h.chunks;
      line = l;
      rest = [];
      are_chunks = h.are_chunks;
      is_line = is_line;
      extensions = fits;
      above = grind (arith, nat_tests, sum_is, size_is, h.are_chunks.sum);
      printed = behind;
      code_is = refl;
    }))))
    (λ within. record {
      chunks = h.chunks;
      line = l;
      here = [];
      are_chunks = h.are_chunks;
      is_line = is_line;
      some = grind (arith, nat_tests, size_is);
      size = omega (arith, size_is);
      content_is = omega (arith, size_is, sum_is);
      extensions_is = omega (arith, extension_is, extended);
      content_fits = grind (arith, nat_tests, sum_is, h.are_chunks.sum);
      extensions_fit = omega (arith, extension_is, extended, fits);
      printed = behind;
    })))

line_move : (s : List ℕ) (totals : ChunkTotals) (b : ℕ) (f : ChunkLineFront) (h : StandsInLine s totals f) (m : ChunkLineMove) → LineMeans (h.line ++ b ∷ []) m
    → MoveMeans (s ++ b ∷ []) (behind_line totals m)
line_move s totals b f h (Front g) front = record {
  chunks = h.chunks;
  line = h.line ++ b ∷ [];
  are_chunks = h.are_chunks;
  are_totals = h.are_totals;
  front = front;
  printed = front-append s (print_chunks h.chunks) h.line (b ∷ []) h.printed;
}
line_move s totals b f h (Whole size extension) (l, is_line, size_is, extension_is, line) = whole_means s totals size extension b f h l is_line size_is extension_is line
line_move s totals b f h Broken breaks = inl (record {
  chunks = h.chunks;
  rest = h.line ++ b ∷ [];
  are_chunks = h.are_chunks;
  breaks = breaks;
  printed = front-append s (print_chunks h.chunks) h.line (b ∷ []) h.printed;
  code_is = refl;
})

-- ---- the data of a chunk, and its end

here_more : (s b chunks line here : List ℕ) → s ≡ chunks ++ (line ++ here) → s ++ b ≡ chunks ++ (line ++ (here ++ b))
here_more s b chunks line here e =
    front-append s chunks (line ++ here) b e ∙ ap (λ xs. chunks ++ xs) (append_assoc line here b)

data_means : (s : List ℕ) (totals : ChunkTotals) (left b : ℕ) → StandsInData s totals left → MoveMeans (s ++ b ∷ []) (chunked_step (Data totals left) b)
data_means s totals left b h =
    on_test (MoveMeans (s ++ b ∷ [])) (nat_lt 0 left) _ _
    (λ some. record {
      chunks = h.chunks;
      line = h.line;
      here = h.here ++ b ∷ [];
      are_chunks = h.are_chunks;
      is_line = h.is_line;
      some = h.some;
      size = grind (arith, nat_tests, h.size, length-append h.here (b ∷ []));
      content_is = h.content_is;
      extensions_is = h.extensions_is;
      content_fits = h.content_fits;
      extensions_fit = h.extensions_fit;
      printed = here_more s (b ∷ []) (print_chunks h.chunks) (print_chunk_line h.line) h.here h.printed;
    })
    (λ none. let full : length h.here ≡ chunk_size h.line = grind (arith, nat_tests, h.size) in
    let c : Chunk = record { line = h.line; content = h.here } in
    let is_chunk : IsChunk c = record { line = h.is_line; size = sym full; some = omega (arith, full, h.some) } in
    let are : AreChunks (h.chunks ++ c ∷ []) = chunks_push h.chunks c h.are_chunks is_chunk (omega (arith, full, h.content_is, h.content_fits)) (omega (arith, h.extensions_is, h.extensions_fit)) in
    on_test (MoveMeans (s ++ b ∷ [])) (b == 13) _ _
    (λ cr. let is : 13 ≡ b = grind (arith, nat_tests) in record {
      chunks = h.chunks;
      chunk = c;
      are_chunks = are;
      are_totals = record {
        content_is = omega (arith, full, h.content_is, content_push h.chunks c);
        extensions_is = omega (arith, h.extensions_is, extensions_push h.chunks c);
      };
      printed = here_more s (b ∷ []) (print_chunks h.chunks) (print_chunk_line h.line) h.here h.printed
          ∙ ap (λ v. print_chunks h.chunks ++ (print_chunk_line h.line ++ (h.here ++ v ∷ []))) (sym is);
    })
    (λ other. let isnt : b ≢ 13 = grind (arith, nat_tests) in inr (inr (inr (inl (record {
      chunks = h.chunks;
      chunk = c;
      rest = b ∷ [];
      are_chunks = are;
      no_end = λ more behind e. isnt (cc);
      printed = here_more s (b ∷ []) (print_chunks h.chunks) (print_chunk_line h.line) h.here h.printed;
      code_is = refl;
    }))))))

chunk_end_means : (s : List ℕ) (totals : ChunkTotals) (b : ℕ) → StandsInChunkEnd s totals → MoveMeans (s ++ b ∷ []) (chunked_step (DataLineFeed totals) b)
chunk_end_means s totals b h =
    let c = h.chunk in
    let printed : s ++ b ∷ [] ≡ print_chunks h.chunks ++ (print_chunk_line c.line ++ (c.content ++ (13 ∷ b ∷ []))) =
    here_more s (b ∷ []) (print_chunks h.chunks) (print_chunk_line c.line) (c.content ++ 13 ∷ []) h.printed
    ∙ ap (λ xs. print_chunks h.chunks ++ (print_chunk_line c.line ++ xs)) (append_assoc c.content (13 ∷ []) (b ∷ [])) in
    on_test (MoveMeans (s ++ b ∷ [])) (b == 10) _ _
    (λ feed. let is : 10 ≡ b = grind (arith, nat_tests) in
    first_stands (s ++ b ∷ []) (h.chunks ++ c ∷ []) totals h.are_chunks h.are_totals
    (printed ∙ ap (λ v. print_chunks h.chunks ++ (print_chunk_line c.line ++ (c.content ++ (13 ∷ v ∷ [])))) (sym is)
    ∙ ap (λ xs. print_chunks h.chunks ++ xs) (sym (append-nil (print_chunk c)))
    ∙ sym (flat_map-append print_chunk h.chunks (c ∷ []))))
    (λ other. let isnt : b ≢ 10 = grind (arith, nat_tests) in inr (inr (inr (inl (record {
      chunks = h.chunks;
      chunk = c;
      rest = 13 ∷ b ∷ [];
      are_chunks = h.are_chunks;
      no_end = λ more behind e. isnt (cc);
      printed = printed;
      code_is = refl;
    })))))

-- ---- trailer lines

line_more : (s b before trailers line : List ℕ) → s ≡ before ++ (trailers ++ line) → s ++ b ≡ before ++ (trailers ++ (line ++ b))
line_more = here_more

trailers_push : (trailers : List Field) (f : Field) → print_trailers trailers ++ print_field f ≡ print_trailers (trailers ++ f ∷ [])
trailers_push trailers f =
    ap (λ xs. print_trailers trailers ++ xs) (sym (append-nil (print_field f)))
    ∙ sym (flat_map-append print_field trailers (f ∷ []))

-- a whole trailer line
trailer_ends : (s : List ℕ) (count b : ℕ) (g : TrailerFront) (h : StandsInTrailers s count g) (f : Field) → IsTrailer f → h.line ++ b ∷ [] ≡ print_field f
    → MoveMeans (s ++ b ∷ []) (behind_trailer count IsWholeField)
trailer_ends s count b g h f is line =
    let more = h.trailers ++ f ∷ [] in
    let behind : s ++ b ∷ [] ≡ h.before ++ (print_trailers more ++ []) =
    line_more s (b ∷ []) h.before (print_trailers h.trailers) h.line h.printed
    ∙ ap (λ xs. h.before ++ xs) (ap (λ xs. print_trailers h.trailers ++ xs) line ∙ trailers_push h.trailers f ∙ sym (append-nil (print_trailers more))) in
    let len : length more ≡ length h.trailers + 1 = omega (arith, length-append h.trailers (f ∷ [])) in
    on_test (MoveMeans (s ++ b ∷ [])) (nat_lt count 100) _ _
    (λ fits. record {
      before = h.before;
      trailers = more;
      line = [];
      is_data = h.is_data;
      are_trailers = record {
        each = All-push IsTrailer h.trailers f h.are_trailers.each is;
        few = grind (arith, nat_tests, h.count_is, len);
      };
      count_is = omega (arith, h.count_is, len);
      front = first_is_trailer;
      printed = behind;
    })
    (λ full. inr (inr (inr (inr (record {
      before = h.before;
      trailers = more;
      rest = [];
      is_data = h.is_data;
      breaks = inr (grind (arith, nat_tests, h.count_is, len, h.are_trailers.few), All-push IsTrailer h.trailers f h.are_trailers.each is);
      printed = behind;
      code_is = refl;
    })))))

trailer_move : (s : List ℕ) (count b : ℕ) (f : TrailerFront) (h : StandsInTrailers s count f) (m : TrailerMove) → TrailerMeans (h.line ++ b ∷ []) m
    → MoveMeans (s ++ b ∷ []) (behind_trailer count m)
trailer_move s count b f h (TrailerFurther g) front = record {
  before = h.before;
  trailers = h.trailers;
  line = h.line ++ b ∷ [];
  is_data = h.is_data;
  are_trailers = h.are_trailers;
  count_is = h.count_is;
  front = front;
  printed = line_more s (b ∷ []) h.before (print_trailers h.trailers) h.line h.printed;
}
trailer_move s count b f h IsWholeField (field, is, line) = trailer_ends s count b f h field is line
trailer_move s count b f h Empty (end, line) = record {
  before = h.before;
  trailers = h.trailers;
  end = end;
  is_data = h.is_data;
  are_trailers = h.are_trailers;
  printed =
      line_more s (b ∷ []) h.before (print_trailers h.trailers) h.line h.printed
      ∙ ap (λ xs. h.before ++ (print_trailers h.trailers ++ xs)) line;
}
trailer_move s count b f h TrailerBroken breaks = inr (inr (inr (inr (record {
  before = h.before;
  trailers = h.trailers;
  rest = h.line ++ b ∷ [];
  is_data = h.is_data;
  breaks = inl (h.are_trailers, breaks);
  printed = line_more s (b ∷ []) h.before (print_trailers h.trailers) h.line h.printed;
  code_is = refl;
}))))

-- what a byte makes of a chunked body
pub move_means : (s : List ℕ) (p : ChunkedPlace) (b : ℕ) → StandsInChunked s p → MoveMeans (s ++ b ∷ []) (chunked_step p b)
move_means s (Line totals f) b h = line_move s totals b f h (line_step f b) (line_means h.line f b h.front)
move_means s (Data totals left) b h = data_means s totals left b h
move_means s (DataLineFeed totals) b h = chunk_end_means s totals b h
move_means s (Trailer count f) b h = trailer_move s count b f h (trailer_step f b) (trailer_means h.line f b h.front)
