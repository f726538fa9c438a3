-- What the bytes of a chunk line make of the place before it: the line alone decides.
use Rattle.std.proofs.Common.{◌≡◌, ℕ, zero, suc, true, ◌-◌, ◌≤◌, inl, inr, List, [], ◌∷◌, ◌++◌, length, take, refl, sym, ap, ◌∙◌, subst, arith, append_assoc}
use Rattle.std.proofs.Math.Nat.{sub-zero}
use Rattle.std.specs.Char.{is_ascii_hexdigit}
use Rattle.std.proofs.lemmas.List.{append-nil}
use Rattle.std.proofs.lemmas.List.Elements.{All-nil}
use Rattle.httparse.specs.Grammar.{ChunkLine, print_chunk_line, chunk_size, ReadsChunkLine}
use Rattle.httparse.proofs.ChunkLemmas.{chunk_line_unique}
use Rattle.http_read.specs.declared.chunk_line.ChunkLineFront.{ChunkLineFront}
use Rattle.http_read.specs.declared.chunk_line.ChunkLineMove.{ChunkLineMove}
use Rattle.http_read.specs.declared.chunk_line.ChunkLineMove.TheVariants.{Front, Whole, Broken}
use Rattle.http_read.specs.declared.chunked.ChunkTotals.{ChunkTotals}
use Rattle.http_read.specs.declared.chunked.ChunkedPlace.TheVariants.{Line}
use Rattle.http_read.specs.ChunkLines.{IsShortLine, extension_len, IsChunkLineBegun, BreaksChunkLine}
use Rattle.http_read.specs.BodyPlaces.{IsChunkLineFront}
use Rattle.http_read.specs.ChunkStepsInside.{Outcome, Open, Breaks, first_front, line_step, behind_whole, behind_line, run, run_on}
use Rattle.http_read.proofs.ChunkLineLemmas.{LineMeans, line_means, front_begun}
use Rattle.http_read.proofs.BodyFormLemmas.{line_breaks_more}

-- what bytes make of a chunk line: it stays a front, or it is whole before the rest, or no line
pub data LineOutcome : Type 0 where
  Still : ChunkLineFront → LineOutcome
  Found : ℕ → ℕ → List ℕ → LineOutcome
  Lost : LineOutcome

abbrev pub then_line : (ChunkLineFront → LineOutcome) → ChunkLineMove → List ℕ → LineOutcome
then_line further (Front f) rest = further f
then_line further (Whole size extension) rest = Found size extension rest
then_line further Broken rest = Lost

abbrev pub line_run : List ℕ → ChunkLineFront → LineOutcome
line_run [] f = Still f
line_run (b ∷ bytes) f = then_line (λ g. line_run bytes g) (line_step f b) bytes

-- what becomes of the body
abbrev pub body_of_line : ChunkTotals → LineOutcome → Outcome
body_of_line totals (Still f) = Open (Line totals f)
body_of_line totals (Found size extension rest) = run_on (behind_whole totals size extension) rest
body_of_line totals Lost = Breaks 400

after_line_move : (totals : ChunkTotals) (bytes : List ℕ) (m : ChunkLineMove)
    → ((g : ChunkLineFront) → run bytes (Line totals g) ≡ body_of_line totals (line_run bytes g))
    → run_on (behind_line totals m) bytes ≡ body_of_line totals (then_line (λ g. line_run bytes g) m bytes)
after_line_move totals bytes (Front g) further = further g
after_line_move totals bytes (Whole size extension) further = refl
after_line_move totals bytes Broken further = refl

pub run_line : (bytes : List ℕ) (totals : ChunkTotals) (f : ChunkLineFront) → run bytes (Line totals f) ≡ body_of_line totals (line_run bytes f)
run_line [] totals f = refl
run_line (b ∷ bytes) totals f = after_line_move totals bytes (line_step f b) (λ g. run_line bytes totals g)

-- ---- what the outcome means

abbrev LineOutcomeMeans : List ℕ → List ℕ → LineOutcome → Type 0
LineOutcomeMeans s bytes (Still f) = IsChunkLineFront (s ++ bytes) f
LineOutcomeMeans s bytes (Found size extension rest) = (here : List ℕ) × (l : ChunkLine) × (bytes ≡ here ++ rest) × IsShortLine l × (chunk_size l ≡ size) × (extension_len l ≡ extension) × (s ++ here ≡ print_chunk_line l)
LineOutcomeMeans s bytes Lost = BreaksChunkLine (s ++ bytes)

after_line_byte : (s : List ℕ) (b : ℕ) (bytes : List ℕ) (o : LineOutcome) → LineOutcomeMeans (s ++ b ∷ []) bytes o → LineOutcomeMeans s (b ∷ bytes) o
after_line_byte s b bytes (Still f) h = subst (λ xs. IsChunkLineFront xs f) (append_assoc s (b ∷ []) bytes) h
after_line_byte s b bytes (Found size extension rest) (here, l, split, is_line, size_is, extension_is, printed) =
    (b ∷ here, l, ap (λ xs. b ∷ xs) split, is_line, size_is, extension_is, sym (append_assoc s (b ∷ []) here) ∙ printed)
after_line_byte s b bytes Lost h = subst BreaksChunkLine (append_assoc s (b ∷ []) bytes) h

after_line_means : (s : List ℕ) (b : ℕ) (bytes : List ℕ) (m : ChunkLineMove) → LineMeans (s ++ b ∷ []) m
    → ((g : ChunkLineFront) → IsChunkLineFront (s ++ b ∷ []) g → LineOutcomeMeans (s ++ b ∷ []) bytes (line_run bytes g))
    → LineOutcomeMeans s (b ∷ bytes) (then_line (λ g. line_run bytes g) m bytes)
after_line_means s b bytes (Front g) h further = after_line_byte s b bytes (line_run bytes g) (further g h)
after_line_means s b bytes (Whole size extension) (l, is_line, size_is, extension_is, printed) further = (b ∷ [], l, refl, is_line, size_is, extension_is, printed)
after_line_means s b bytes Broken h further = subst BreaksChunkLine (append_assoc s (b ∷ []) bytes) (line_breaks_more (s ++ b ∷ []) bytes h)

line_run_means : (bytes s : List ℕ) (f : ChunkLineFront) → IsChunkLineFront s f → LineOutcomeMeans s bytes (line_run bytes f)
line_run_means [] s f h = subst (λ xs. IsChunkLineFront xs f) (sym (append-nil s)) h
line_run_means (b ∷ bytes) s f h =
    after_line_means s b bytes (line_step f b) (line_means s f b h) (λ g front. line_run_means bytes (s ++ b ∷ []) g front)

first_is_front : IsChunkLineFront [] first_front
first_is_front = record { len = refl; short = omega arith; ends = (omega arith, All-nil (λ b. is_ascii_hexdigit b ≡ true), refl, refl) }

line_outcome : (bytes : List ℕ) → LineOutcomeMeans [] bytes (line_run bytes first_front)
line_outcome bytes = line_run_means bytes [] first_front first_is_front

-- ---- the line decides

reads_short : (bytes rest : List ℕ) (l : ChunkLine) → IsShortLine l → bytes ≡ print_chunk_line l ++ rest → ReadsChunkLine bytes l rest
reads_short bytes rest l is_line printed = (is_line.line, printed)

breaks_no_line : (bytes rest : List ℕ) (l : ChunkLine) → IsShortLine l → bytes ≡ print_chunk_line l ++ rest → BreaksChunkLine bytes → ⊥
breaks_no_line bytes rest l is_line printed (inl never) = never [] l rest (subst (λ xs. ReadsChunkLine xs l rest) (sym (append-nil bytes)) (reads_short bytes rest l is_line printed))
breaks_no_line bytes rest l is_line printed (inr (long, none)) =
    let n = length (print_chunk_line l) in
    let line = print_chunk_line l in
    let front : take 1024 bytes ≡ line ++ take (1024 - n) rest =
    ap (λ xs. take 1024 xs) printed ∙ take_over 1024 line rest is_line.short in
    none l (take (1024 - n) rest) (is_line.line, front)
  where
    take_over : (n : ℕ) (xs ys : List ℕ) → length xs ≤ n → take n (xs ++ ys) ≡ xs ++ take (n - length xs) ys
    take_over n [] ys h = ap (λ k. take k ys) (sym (sub-zero n))
    take_over zero (x ∷ xs) ys h = absurd (omega arith)
    take_over (suc n) (x ∷ xs) ys h =
        ap (λ zs. x ∷ zs) (take_over n xs ys (omega arith)) ∙ ap (λ k. x ∷ xs ++ take k ys) (omega arith)

pub found_line : (bytes rest : List ℕ) (l : ChunkLine) → IsShortLine l → bytes ≡ print_chunk_line l ++ rest
    → line_run bytes first_front ≡ Found (chunk_size l) (extension_len l) rest
found_line bytes rest l is_line printed = found (line_run bytes first_front) (line_outcome bytes)
  where
    found : (o : LineOutcome) → LineOutcomeMeans [] bytes o → o ≡ Found (chunk_size l) (extension_len l) rest
    found (Still f) h = absurd ((front_begun bytes f h).no_line l rest (reads_short bytes rest l is_line printed))
    found (Found size extension left) (here, k, split, is_other, size_is, extension_is, other) =
        let same = chunk_line_unique bytes l k rest left (reads_short bytes rest l is_line printed)
        (reads_short bytes left k is_other (split ∙ ap (λ xs. xs ++ left) other)) in
        let sizes : chunk_size l ≡ size = ap chunk_size same.0 ∙ size_is in
        let extensions : extension_len l ≡ extension = ap extension_len same.0 ∙ extension_is in
        let rests : rest ≡ left = same.1 in
        cc
    found Lost h = absurd (breaks_no_line bytes rest l is_line printed h)

pub still_line : (bytes : List ℕ) → IsChunkLineBegun bytes → (f : ChunkLineFront) × (line_run bytes first_front ≡ Still f) × (f.len ≡ length bytes)
still_line bytes begun = still (line_run bytes first_front) refl (line_outcome bytes)
  where
    still : (o : LineOutcome) → line_run bytes first_front ≡ o → LineOutcomeMeans [] bytes o → (f : ChunkLineFront) × (line_run bytes first_front ≡ Still f) × (f.len ≡ length bytes)
    still (Still f) e h = (f, e, h.len)
    still (Found size extension left) e (here, k, split, is_other, size_is, extension_is, other) =
        absurd (begun.no_line k left (reads_short bytes left k is_other (split ∙ ap (λ xs. xs ++ left) other)))
    still Lost e (inl never) =
        let (more, l, reads) = begun.unfinished in
        absurd (never more l [] reads)
    still Lost e (inr (long, none)) = absurd (omega (arith, begun.short))

pub lost_line : (bytes : List ℕ) → BreaksChunkLine bytes → line_run bytes first_front ≡ Lost
lost_line bytes breaks = lost (line_run bytes first_front) (line_outcome bytes) breaks
  where
    lost : (o : LineOutcome) → LineOutcomeMeans [] bytes o → BreaksChunkLine bytes → o ≡ Lost
    lost (Still f) h (inl never) =
        let (more, l, reads) = (front_begun bytes f h).unfinished in
        absurd (never more l [] reads)
    lost (Still f) h (inr (long, none)) = absurd (omega (arith, h.short))
    lost (Found size extension left) (here, k, split, is_other, size_is, extension_is, other) b =
        absurd (breaks_no_line bytes left k is_other (split ∙ ap (λ xs. xs ++ left) other) b)
    lost Lost h b = refl
