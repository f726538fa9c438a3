-- What the reader answers is what the forms say of the bytes that were taken and those that came.
use Rattle.std.proofs.Common.{◌≡◌, ℕ, ◌+◌, ◌-◌, ◌≤◌, List, ◌++◌, length, take, drop, sym, ap, ◌∙◌, subst, arith, append_assoc, length-append, length-drop}
use Rattle.std.proofs.lemmas.List.{take-append-drop}
use Rattle.std.proofs.Math.Seq.{drop-append_seam, take-append_seam, drop-append-add}
use Rattle.http_read.specs.declared.request.BodyKind.{BodyKind}
use Rattle.http_read.specs.declared.request.BodyKind.TheVariants as kind
use Rattle.http_read.specs.declared.body.BodyPlace.{BodyPlace}
use Rattle.http_read.specs.declared.body.BodyPlace.TheVariants.{Chunked}
use Rattle.http_read.specs.declared.chunked.ChunkedPlace.{ChunkedPlace}
use Rattle.http_read.specs.BodyForm.{IsBody, IsChunkedBody, IsChunkedFront, BreaksBody, BreaksChunked}
use Rattle.http_read.specs.BodyPlaces.{StandsInChunked, StandsAt, chunked_begun_len, begun_len}
use Rattle.http_read.specs.BodyAnswers.{BodyGoesOn}
use Rattle.http_read.specs.ChunkStepsInside.{Outcome, Open, Ended, Breaks, run}
use Rattle.http_read.proofs.BodyFormLemmas.{OutcomeMeans, run_means, stands_in_line}

looked_and_rest : (past bytes : List ℕ) (k : ℕ) → (past ++ take k bytes) ++ drop k bytes ≡ past ++ bytes
looked_and_rest past bytes k = append_assoc past (take k bytes) (drop k bytes) ∙ ap (λ xs. past ++ xs) (take-append-drop k bytes)

-- the last bytes, as many as the line has
pub line_left : (past bytes before line : List ℕ) → past ++ bytes ≡ before ++ line → length line ≤ length bytes
    → drop (length bytes - length line) bytes ≡ line
line_left past bytes before line e fits =
    let n = length bytes - length line in
    let seam : length past + n ≡ length before = omega (arith, ap length e, length-append past bytes, length-append before line) in
    sym (drop-append-add past bytes n) ∙ ap (λ xs. drop (length past + n) xs) e ∙ ap (λ k. drop k (before ++ line)) seam ∙ drop-append_seam before line

outcome_at : (past bytes : List ℕ) (from : ChunkedPlace) (o : Outcome) → StandsInChunked (past ++ take (chunked_begun_len from) bytes) from
    → run (drop (chunked_begun_len from) bytes) from ≡ o → OutcomeMeans (past ++ take (chunked_begun_len from) bytes) (drop (chunked_begun_len from) bytes) o
outcome_at past bytes from o stands is =
    let k = chunked_begun_len from in
    subst (OutcomeMeans (past ++ take k bytes) (drop k bytes)) is (run_means (drop k bytes) (past ++ take k bytes) from stands)

goes_on : (past bytes : List ℕ) (q : ChunkedPlace) → StandsInChunked (past ++ bytes) q → chunked_begun_len q ≤ length bytes
    → BodyGoesOn kind.Chunked past bytes (length bytes - chunked_begun_len q) (Chunked q)
goes_on past bytes q stands fits =
    let e = stands_in_line (past ++ bytes) q stands in
    let rest : drop (length bytes - chunked_begun_len q) bytes ≡ e.line =
    ap (λ n. drop (length bytes - n) bytes) (sym e.len) ∙ line_left past bytes e.before e.line e.split (omega (arith, e.len)) in
    record {
      front = subst (IsChunkedFront (past ++ bytes)) (sym rest) e.front;
      stands = (tt, stands);
    }

ends : (past bytes here : List ℕ) (k at : ℕ) → k ≤ length bytes → at ≤ length bytes → drop k bytes ≡ here ++ drop at bytes
    → IsChunkedBody ((past ++ take k bytes) ++ here) → IsBody kind.Chunked (past ++ take at bytes)
ends past bytes here k at inside within split body =
    let whole : bytes ≡ (take k bytes ++ here) ++ drop at bytes =
    sym (take-append-drop k bytes) ∙ ap (λ xs. take k bytes ++ xs) split ∙ sym (append_assoc (take k bytes) here (drop at bytes)) in
    let len : length (take k bytes ++ here) ≡ at =
    omega (arith, ap length whole, length-append (take k bytes ++ here) (drop at bytes), length-drop at bytes) in
    let front : take at bytes ≡ take k bytes ++ here =
    ap (λ n. take n bytes) (sym len) ∙ ap (λ xs. take (length (take k bytes ++ here)) xs) whole ∙ take-append_seam (take k bytes ++ here) (drop at bytes) in
    subst IsChunkedBody (append_assoc past (take k bytes) here ∙ ap (λ xs. past ++ xs) (sym front)) body

module _ (place : BodyPlace) (from : ChunkedPlace) (is : place ≡ Chunked from) (past bytes : List ℕ) where
  stood : (of : BodyKind) → StandsAt of (past ++ take (begun_len place) bytes) place
      → StandsAt of (past ++ take (chunked_begun_len from) bytes) (Chunked from)
  stood of = subst (λ p. StandsAt of (past ++ take (begun_len p) bytes) p) is

  pub on_goes : (of : BodyKind) (q : ChunkedPlace) → StandsAt of (past ++ take (begun_len place) bytes) place
      → run (drop (chunked_begun_len from) bytes) from ≡ Open q → chunked_begun_len q ≤ length bytes
      → BodyGoesOn of past bytes (length bytes - chunked_begun_len q) (Chunked q)
  on_goes kind.Nothing q stands outcome fits = absurd (stood kind.Nothing stands).0
  on_goes (kind.Length n) q stands outcome fits = absurd (stood (kind.Length n) stands).0
  on_goes kind.Chunked q stands outcome fits =
      goes_on past bytes q
      (subst (λ xs. StandsInChunked xs q) (looked_and_rest past bytes (chunked_begun_len from))
      (outcome_at past bytes from (Open q) (stood kind.Chunked stands).1 outcome)) fits

  pub done_ends : (of : BodyKind) (at : ℕ) → StandsAt of (past ++ take (begun_len place) bytes) place
      → run (drop (chunked_begun_len from) bytes) from ≡ Ended (drop at bytes) → begun_len place ≤ length bytes → at ≤ length bytes
      → IsBody of (past ++ take at bytes)
  done_ends kind.Nothing at stands outcome inside within = absurd (stood kind.Nothing stands).0
  done_ends (kind.Length n) at stands outcome inside within = absurd (stood (kind.Length n) stands).0
  done_ends kind.Chunked at stands outcome inside within =
      let (here, split, body) = outcome_at past bytes from (Ended (drop at bytes)) (stood kind.Chunked stands).1 outcome in
      ends past bytes here (chunked_begun_len from) at (subst (λ p. begun_len p ≤ length bytes) is inside) within split body

  pub bad_breaks : (of : BodyKind) (code : ℕ) → StandsAt of (past ++ take (begun_len place) bytes) place
      → run (drop (chunked_begun_len from) bytes) from ≡ Breaks code → BreaksBody of (past ++ bytes) code
  bad_breaks kind.Nothing code stands outcome = absurd (stood kind.Nothing stands).0
  bad_breaks (kind.Length n) code stands outcome = absurd (stood (kind.Length n) stands).0
  bad_breaks kind.Chunked code stands outcome =
      subst (λ xs. BreaksChunked xs code) (looked_and_rest past bytes (chunked_begun_len from))
      (outcome_at past bytes from (Breaks code) (stood kind.Chunked stands).1 outcome)
