-- What a byte makes of the front of a chunk line is what the grammar says of the longer front.
use Rattle.std.proofs.Common.{◌≡◌, ◌≢◌, ℕ, ◌+◌, ◌*◌, ◌<◌, ◌≤◌, inl, inr, Bool, true, false, List, [], ◌∷◌, ◌++◌, length, refl, sym, ap, ◌∙◌, subst, arith, append_assoc, Option, Some, None, length-append}
use Rattle.std.specs.Prelude.{if◌then◌else◌, ◌==◌, ◌||◌, nat_lt}
use Rattle.std.specs.Char.{is_ascii_hexdigit, digit_value}
use Rattle.std.specs.Str.Parse.{digits_value}
use Rattle.std.proofs.lemmas.Bool.{eqb-true, eqb-false, ltb-true, ltb-false, false≢true}
use Rattle.std.proofs.lemmas.List.{append-nil, take_all}
use Rattle.std.proofs.lemmas.List.Elements.{All-push, All-nil, All-head}
use Rattle.httparse.specs.Grammar.{AllPass, is_ows, is_extension_byte, IsExtension, print_extension, ChunkLine, print_chunk_line, chunk_size, ReadsChunkLine, HasNoChunkLine, NeverHasChunkLine}
use Rattle.httparse.specs.Pieces.{Stops, Then, Run, HexDigits, Extension}
use Rattle.httparse.proofs.RunLemmas.{run_unique}
use Rattle.httparse.proofs.PieceLemmas.{Refutes_first}
use Rattle.httparse.proofs.ChunkLemmas.{chunk_pieces, chunk_line_unique, ReadsChunkLine-append, HexDigits_long, NeverHasChunkLine_intro, digits_value_after_push}
use Rattle.http_read.specs.declared.chunk_line.ChunkLinePart.{ChunkLinePart}
use Rattle.http_read.specs.declared.chunk_line.ChunkLinePart.TheVariants.{Digits, Pad, Extension as InExtension, CarriageReturn}
use Rattle.http_read.specs.declared.chunk_line.ChunkLineFront.{ChunkLineFront}
use Rattle.http_read.specs.declared.chunk_line.ChunkLineMove.{ChunkLineMove}
use Rattle.http_read.specs.declared.chunk_line.ChunkLineMove.TheVariants.{Front, Whole, Broken}
use Rattle.http_read.specs.ChunkLines.{IsShortLine, extension_len, IsChunkLineBegun, BreaksChunkLine}
use Rattle.http_read.specs.BodyPlaces.{IsSizeBefore, EndsInPart, IsChunkLineFront}
use Rattle.http_read.specs.ChunkStepsInside.{longer, pad_step, digit_step, extension_step, part_step, line_step}

-- both sides of a test
pub on_test : {A : Type 0} (P : A → Type 0) (b : Bool) (x y : A) → (b ≡ true → P x) → (b ≡ false → P y) → P (if b then x else y)
on_test P true x y f g = f refl
on_test P false x y f g = g refl

-- what tests of numbers say
some_of : (n : ℕ) → (n == 0) ≡ false → 0 < n
some_of n some = let differs = eqb-false n 0 some in omega (arith, differs)

passes_extension : (b : ℕ) → (b == 13) ≡ false → (b == 10) ≡ false → is_extension_byte b ≡ true
passes_extension b no_cr no_lf = rw (no_cr, no_lf) refl

-- ---- a front stays open

line_printed : (l : ChunkLine) (rest : List ℕ) → print_chunk_line l ++ rest
    ≡ l.digits ++ (l.pad ++ (print_extension l.extension ++ (13 ∷ 10 ∷ rest)))
unfolding print_chunk_line
line_printed l rest = simp append_assoc

abbrev line_of : (digits pad : List ℕ) → Option (List ℕ) → ChunkLine
line_of digits pad e = record { digits = digits; pad = pad; extension = e }

reads_then : (size : ℕ) (s tail more : List ℕ) (t : IsSizeBefore size s tail) (e : Option (List ℕ)) → IsExtension e
    → tail ++ more ≡ print_extension e ++ (13 ∷ 10 ∷ []) → ReadsChunkLine (s ++ more) (line_of t.digits t.pad e) []
reads_then size s tail more t e is_extension ends = (
  record { digits = (t.writes.some, t.writes.few, t.writes.each); pad = t.blank; extension = is_extension },
  ap (λ xs. xs ++ more) t.printed
      ∙ append_assoc t.digits (t.pad ++ tail) more
      ∙ ap (λ xs. t.digits ++ xs) (append_assoc t.pad tail more)
      ∙ ap (λ xs. t.digits ++ (t.pad ++ xs)) ends
      ∙ sym (line_printed (line_of t.digits t.pad e) []),
)

record IsOpenFront (s : List ℕ) : Type 0 where
  more : List ℕ
  line : ChunkLine
  some : 0 < length more
  reads : ReadsChunkLine (s ++ more) line []

open_then : (size : ℕ) (s tail more : List ℕ) (t : IsSizeBefore size s tail) (e : Option (List ℕ)) → IsExtension e
    → tail ++ more ≡ print_extension e ++ (13 ∷ 10 ∷ []) → 0 < length more → IsOpenFront s
open_then size s tail more t e is_extension ends some =
    record { more = more; line = line_of t.digits t.pad e; some = some; reads = reads_then size s tail more t e is_extension ends }

-- digits alone, some of them
size_alone : (s : List ℕ) (size : ℕ) → 0 < length s → length s ≤ 16 → AllPass is_ascii_hexdigit s → size ≡ digits_value 16 s → IsSizeBefore size s []
size_alone s size some few each value = record {
  digits = s;
  pad = [];
  writes = record { some = some; few = few; each = each; value = value };
  blank = All-nil (λ b. is_ows b ≡ true);
  printed = sym (append-nil s);
}

front_open : (part : ChunkLinePart) (s : List ℕ) (size extension : ℕ) → EndsInPart part s size extension → IsOpenFront s
unfolding size_alone
front_open Digits [] size extension h =
    let zero_digit : IsSizeBefore 0 (48 ∷ []) [] = size_alone (48 ∷ []) 0 (omega arith) (omega arith) (All-push (λ b. is_ascii_hexdigit b ≡ true) [] 48 (All-nil _) refl) refl in
    record { more = 48 ∷ 13 ∷ 10 ∷ []; line = line_of (48 ∷ []) [] None; some = omega arith; reads = reads_then 0 (48 ∷ []) [] (13 ∷ 10 ∷ []) zero_digit None tt refl }
front_open Digits (b ∷ s) size extension h = open_then size (b ∷ s) [] (13 ∷ 10 ∷ []) (size_alone (b ∷ s) size (omega arith) h.0 h.1 h.2) None tt refl (omega arith)
front_open Pad s size extension h = open_then size s [] (13 ∷ 10 ∷ []) h.0 None tt refl (omega arith)
front_open InExtension s size extension (text, passes, t, count) = open_then size s (59 ∷ text) (13 ∷ 10 ∷ []) t (Some text) passes refl (omega arith)
front_open CarriageReturn s size extension (e, is_extension, t, count) =
    open_then size s (print_extension e ++ 13 ∷ []) (10 ∷ []) t e is_extension (append_assoc (print_extension e) (13 ∷ []) (10 ∷ [])) (omega arith)

open_no_line : (s : List ℕ) → IsOpenFront s → HasNoChunkLine s
open_no_line s o k rest x =
    let same = chunk_line_unique (s ++ o.more) k o.line (rest ++ o.more) [] (ReadsChunkLine-append s k rest o.more x) o.reads in
    absurd (omega (arith, ap length same.1, length-append rest o.more, o.some))

-- the front of a chunk line is one that isn't whole
pub front_begun : (s : List ℕ) (f : ChunkLineFront) → IsChunkLineFront s f → IsChunkLineBegun s
front_begun s f h =
    let o = front_open f.part s f.size f.extension h.ends in
    record { unfinished = (o.more, o.line, o.reads); no_line = open_no_line s o; short = h.short }

-- ---- a byte more

-- what a move means of the bytes up to it
abbrev pub LineMeans : List ℕ → ChunkLineMove → Type 0
LineMeans t (Front f) = IsChunkLineFront t f
LineMeans t (Whole size extension) = (l : ChunkLine) × IsShortLine l × (chunk_size l ≡ size) × (extension_len l ≡ extension) × (t ≡ print_chunk_line l)
LineMeans t Broken = BreaksChunkLine t

longer_means : (t : List ℕ) (f : ChunkLineFront) (size extension : ℕ) (part : ChunkLinePart) → f.len + 1 ≡ length t
    → length t ≤ 1024 → EndsInPart part t size extension → LineMeans t (longer f size extension part)
longer_means t f size extension part len most ends =
    on_test (LineMeans t) (nat_lt (f.len + 1) 1024) _ _
    (λ below. let short = ltb-true (f.len + 1) 1024 below in record { len = len; short = omega (arith, len, short); ends = ends })
    (λ above. let long = ltb-false (f.len + 1) 1024 above in inr (omega (arith, len, long), subst HasNoChunkLine (sym (take_all 1024 t most)) (open_no_line t (front_open part t size extension ends))))

length_more : (s : List ℕ) (b n : ℕ) → n ≡ length s → n + 1 ≡ length (s ++ b ∷ [])
length_more s b n e = omega (arith, length-append s (b ∷ []))

then_push : (size : ℕ) (s tail : List ℕ) (b : ℕ) → IsSizeBefore size s tail → IsSizeBefore size (s ++ b ∷ []) (tail ++ b ∷ [])
then_push size s tail b t = record {
  digits = t.digits;
  pad = t.pad;
  writes = t.writes;
  blank = t.blank;
  printed = ap (λ xs. xs ++ b ∷ []) t.printed ∙ append_assoc t.digits (t.pad ++ tail) (b ∷ []) ∙ ap (λ xs. t.digits ++ xs) (append_assoc t.pad tail (b ∷ []));
}

pad_push : (size : ℕ) (s : List ℕ) (b : ℕ) → is_ows b ≡ true → IsSizeBefore size s [] → EndsInPart Pad (s ++ b ∷ []) size 0
pad_push size s b ows t = (
  record {
    digits = t.digits;
    pad = t.pad ++ b ∷ [];
    writes = t.writes;
    blank = All-push (λ c. is_ows c ≡ true) t.pad b t.blank ows;
    printed = ap (λ xs. xs ++ b ∷ []) (t.printed ∙ ap (λ xs. t.digits ++ xs) (append-nil t.pad)) ∙ append_assoc t.digits t.pad (b ∷ []) ∙ ap (λ xs. t.digits ++ xs) (sym (append-nil (t.pad ++ b ∷ [])));
  },
  omega (arith, length-append t.pad (b ∷ [])),
  refl,
)

-- a line that begins so has the same digits and padding
tail_of : (size : ℕ) (s tail more : List ℕ) (t : IsSizeBefore size s tail) (l : ChunkLine) (rest : List ℕ)
    → ReadsChunkLine (s ++ more) l rest → Stops is_ascii_hexdigit (t.pad ++ (tail ++ more)) → Stops is_ows (tail ++ more)
    → tail ++ more ≡ print_extension l.extension ++ (13 ∷ 10 ∷ rest)
tail_of size s tail more t l rest reads no_digit no_pad =
    let p = chunk_pieces (s ++ more) l rest reads in
    let text : s ++ more ≡ t.digits ++ (t.pad ++ (tail ++ more)) =
    ap (λ xs. xs ++ more) t.printed ∙ append_assoc t.digits (t.pad ++ tail) more ∙ ap (λ xs. t.digits ++ xs) (append_assoc t.pad tail more) in
    let digits = run_unique is_ascii_hexdigit t.digits l.digits (t.pad ++ (tail ++ more)) p.0 t.writes.each p.1.0.0 no_digit p.1.0.2 (sym text ∙ p.1.0.1) in
    let pads = run_unique is_ows t.pad l.pad (tail ++ more) p.2.0 t.blank p.2.1.0 no_pad p.2.1.2 (digits.1 ∙ p.2.1.1) in
    pads.1 ∙ p.2.2.1

behind : (s : List ℕ) (b : ℕ) (more : List ℕ) → (s ++ b ∷ []) ++ more ≡ s ++ (b ∷ more)
behind s b more = append_assoc s (b ∷ []) more

-- what equal texts begin with, and what they have behind it
same_first : (b c : ℕ) (xs ys : List ℕ) → b ∷ xs ≡ c ∷ ys → b ≡ c
same_first b c xs ys e = cc e

same_behind : (b c : ℕ) (xs ys : List ℕ) → b ∷ xs ≡ c ∷ ys → xs ≡ ys
same_behind b c xs ys e = cc e

-- a semicolon is no carriage return, and that is no line feed
semicolon_no_cr : (xs ys : List ℕ) → 59 ∷ xs ≡ 13 ∷ ys → ⊥
semicolon_no_cr xs ys e = cc e

feed_no_cr : (xs ys : List ℕ) → 10 ∷ xs ≡ 13 ∷ ys → ⊥
feed_no_cr xs ys e = cc e

-- what begins the line end or an extension
no_other_end : (b : ℕ) (e : Option (List ℕ)) (more rest : List ℕ) → b ≢ 59 → b ≢ 13
    → b ∷ more ≡ print_extension e ++ (13 ∷ 10 ∷ rest) → ⊥
no_other_end b None more rest semicolon cr h = cr (same_first b 13 more (10 ∷ rest) h)
no_other_end b (Some text) more rest semicolon cr h = semicolon (same_first b 59 more (text ++ (13 ∷ 10 ∷ rest)) h)

-- a space or a tab is no digit
blank_no_digit : (c : ℕ) (is_space is_tab : Bool) → (c == 32) ≡ is_space → (c == 9) ≡ is_tab → (is_space || is_tab) ≡ true
    → is_ascii_hexdigit c ≡ false
blank_no_digit c true is_tab space tab ows = subst (λ x. is_ascii_hexdigit x ≡ false) (sym (eqb-true c 32 space)) refl
blank_no_digit c false true space tab ows = subst (λ x. is_ascii_hexdigit x ≡ false) (sym (eqb-true c 9 tab)) refl
blank_no_digit c false false space tab ows = cc ows

pad_stops : (pad : List ℕ) (b : ℕ) (more : List ℕ) → AllPass is_ows pad → (pad ≡ [] → is_ascii_hexdigit b ≡ false)
    → Stops is_ascii_hexdigit (pad ++ (b ∷ more))
pad_stops [] b more blank stops = stops refl
pad_stops (c ∷ pad) b more blank stops =
    blank_no_digit c (c == 32) (c == 9) refl refl (All-head (λ d. is_ows d ≡ true) c pad blank)

never_behind_pad : (size : ℕ) (s : List ℕ) (b : ℕ) (t : IsSizeBefore size s []) → (t.pad ≡ [] → is_ascii_hexdigit b ≡ false)
    → is_ows b ≡ false → b ≢ 59 → b ≢ 13 → NeverHasChunkLine (s ++ b ∷ [])
never_behind_pad size s b t stops no_pad semicolon cr more l rest reads =
    no_other_end b l.extension more rest semicolon cr
    (tail_of size s [] (b ∷ more) t l rest (subst (λ xs. ReadsChunkLine xs l rest) (behind s b more) reads)
    (pad_stops t.pad b more t.blank stops) no_pad)

-- an extension, then a line feed
no_line_feed : (e : Option (List ℕ)) (text more rest : List ℕ) → AllPass is_extension_byte text → IsExtension e
    → (59 ∷ text) ++ (10 ∷ more) ≡ print_extension e ++ (13 ∷ 10 ∷ rest) → ⊥
no_line_feed None text more rest passes is_extension h = semicolon_no_cr (text ++ (10 ∷ more)) (10 ∷ rest) h
no_line_feed (Some other) text more rest passes is_extension h =
    let same = run_unique is_extension_byte text other (10 ∷ more) (13 ∷ 10 ∷ rest) passes is_extension refl refl (same_behind 59 59 (text ++ (10 ∷ more)) (other ++ (13 ∷ 10 ∷ rest)) h) in
    feed_no_cr more (10 ∷ rest) same.1

-- an extension or none, then a carriage return and another byte
no_other_feed : (a e : Option (List ℕ)) (b : ℕ) (more rest : List ℕ) → IsExtension a → IsExtension e → b ≢ 10
    → (print_extension a ++ 13 ∷ []) ++ (b ∷ more) ≡ print_extension e ++ (13 ∷ 10 ∷ rest) → ⊥
no_other_feed None None b more rest x y other h = other (same_first b 10 more rest (same_behind 13 13 (b ∷ more) (10 ∷ rest) h))
no_other_feed None (Some e) b more rest x y other h = semicolon_no_cr (e ++ (13 ∷ 10 ∷ rest)) (b ∷ more) (sym h)
no_other_feed (Some a) None b more rest x y other h = semicolon_no_cr ((a ++ 13 ∷ []) ++ (b ∷ more)) (10 ∷ rest) h
no_other_feed (Some a) (Some e) b more rest x y other h =
    let tails : a ++ (13 ∷ b ∷ more) ≡ e ++ (13 ∷ 10 ∷ rest) = sym (append_assoc a (13 ∷ []) (b ∷ more)) ∙ same_behind 59 59 ((a ++ 13 ∷ []) ++ (b ∷ more)) (e ++ (13 ∷ 10 ∷ rest)) h in
    let same = run_unique is_extension_byte a e (13 ∷ b ∷ more) (13 ∷ 10 ∷ rest) x y refl refl tails in
    other (same_first b 10 more rest (same_behind 13 13 (b ∷ more) (10 ∷ rest) same.1))

never_in_extension : (size : ℕ) (s text : List ℕ) → AllPass is_extension_byte text → IsSizeBefore size s (59 ∷ text)
    → NeverHasChunkLine (s ++ 10 ∷ [])
never_in_extension size s text passes t more l rest reads =
    let front = subst (λ xs. ReadsChunkLine xs l rest) (behind s 10 more) reads in
    no_line_feed l.extension text more rest passes reads.0.extension
    (tail_of size s (59 ∷ text) (10 ∷ more) t l rest front (pad_stops t.pad 59 (text ++ (10 ∷ more)) t.blank (λ _. refl)) refl)

never_behind_cr : (size : ℕ) (s : List ℕ) (a : Option (List ℕ)) (b : ℕ) → IsExtension a
    → IsSizeBefore size s (print_extension a ++ 13 ∷ []) → b ≢ 10 → NeverHasChunkLine (s ++ b ∷ [])
never_behind_cr size s None b is_extension t other more l rest reads =
    let front = subst (λ xs. ReadsChunkLine xs l rest) (behind s b more) reads in
    no_other_feed None l.extension b more rest is_extension reads.0.extension other
    (tail_of size s (13 ∷ []) (b ∷ more) t l rest front (pad_stops t.pad 13 (b ∷ more) t.blank (λ _. refl)) refl)
never_behind_cr size s (Some a) b is_extension t other more l rest reads =
    let front = subst (λ xs. ReadsChunkLine xs l rest) (behind s b more) reads in
    no_other_feed (Some a) l.extension b more rest is_extension reads.0.extension other
    (tail_of size s (59 ∷ a ++ 13 ∷ []) (b ∷ more) t l rest front (pad_stops t.pad 59 ((a ++ 13 ∷ []) ++ (b ∷ more)) t.blank (λ _. refl)) refl)

-- a seventeenth digit
never_long : (s : List ℕ) (b : ℕ) → 16 ≤ length s → length s ≤ 16 → AllPass is_ascii_hexdigit s → is_ascii_hexdigit b ≡ true
    → NeverHasChunkLine (s ++ b ∷ [])
never_long s b long few each digit =
    let all = All-push (λ c. is_ascii_hexdigit c ≡ true) s b each digit in
    let len : length (s ++ b ∷ []) ≡ 17 = omega (arith, length-append s (b ∷ [])) in
    NeverHasChunkLine_intro (Refutes_first HexDigits (Then (Run is_ows) Extension)
    (HexDigits_long (s ++ b ∷ []) (omega arith) (λ k below. all k 0 (omega arith))))

-- no digit at the front
never_empty : (b : ℕ) → is_ascii_hexdigit b ≡ false → NeverHasChunkLine (b ∷ [])
never_empty b no_digit more l rest reads =
    let p = chunk_pieces (b ∷ more) l rest reads in
    elim_digits l.digits p.0 p.1.1 p.1.0.0 p.1.0.1
  where
    elim_digits : (digits middle : List ℕ) → 0 < length digits → AllPass is_ascii_hexdigit digits → b ∷ more ≡ digits ++ middle → ⊥
    elim_digits [] middle some each e = absurd (omega arith)
    elim_digits (d ∷ digits) middle some each e =
        let passes = All-head (λ c. is_ascii_hexdigit c ≡ true) d digits each in
        false≢true (sym no_digit ∙ ap is_ascii_hexdigit (same_first b d more (digits ++ middle) e) ∙ passes)

-- ---- the move means what it says

module _ (s : List ℕ) (f : ChunkLineFront) (b : ℕ) (len_is : f.len ≡ length s) (short : length s < 1024) where
  most : length (s ++ b ∷ []) ≤ 1024
  most = omega (arith, length-append s (b ∷ []))

  longer_front : (size extension : ℕ) (part : ChunkLinePart) → EndsInPart part (s ++ b ∷ []) size extension → LineMeans (s ++ b ∷ []) (longer f size extension part)
  longer_front size extension part = longer_means (s ++ b ∷ []) f size extension part (length_more s b f.len len_is) most

  pad_means : (t : IsSizeBefore f.size s []) → (t.pad ≡ [] → is_ascii_hexdigit b ≡ false) → LineMeans (s ++ b ∷ []) (pad_step f b)
  pad_means t stops =
      on_test (LineMeans (s ++ b ∷ [])) (b == 32 || b == 9) _ _
      (λ ows. longer_front f.size 0 Pad (pad_push f.size s b ows t))
      (λ no_pad. on_test (LineMeans (s ++ b ∷ [])) (b == 59) _ _
      (λ is. longer_front f.size 1 InExtension ([], All-nil (λ c. is_extension_byte c ≡ true), subst (λ c. IsSizeBefore f.size (s ++ b ∷ []) (c ∷ [])) (eqb-true b 59 is) (then_push f.size s [] b t), refl))
      (λ no_semicolon. on_test (LineMeans (s ++ b ∷ [])) (b == 13) _ _
      (λ is. longer_front f.size 0 CarriageReturn (None, tt, subst (λ c. IsSizeBefore f.size (s ++ b ∷ []) (c ∷ [])) (eqb-true b 13 is) (then_push f.size s [] b t), refl))
      (λ no_cr. inl (never_behind_pad f.size s b t stops no_pad (eqb-false b 59 no_semicolon) (eqb-false b 13 no_cr)))))

  digits_mean : EndsInPart Digits s f.size f.extension → LineMeans (s ++ b ∷ []) (digit_step f b)
  digits_mean (few, each, value, none) =
      on_test (LineMeans (s ++ b ∷ [])) (is_ascii_hexdigit b) _ _
      (λ digit. on_test (LineMeans (s ++ b ∷ [])) (nat_lt f.len 16) _ _
      (λ fits. longer_front (f.size * 16 + digit_value b) 0 Digits (
        (let more = length_more s b f.len len_is in let below = ltb-true f.len 16 fits in omega (arith, more, below)),
        All-push (λ c. is_ascii_hexdigit c ≡ true) s b each digit,
        ap (λ n. n * 16 + digit_value b) value ∙ sym (digits_value_after_push 16 0 s b),
        refl,
      ))
      (λ full. let above = ltb-false f.len 16 full in inl (never_long s b (omega (arith, len_is, above)) few each digit)))
      (λ no_digit. on_test (LineMeans (s ++ b ∷ [])) (f.len == 0) _ _
      (λ none. inl (subst (λ xs. NeverHasChunkLine (xs ++ b ∷ [])) (sym (no_bytes s (sym len_is ∙ eqb-true f.len 0 none))) (never_empty b no_digit)))
      (λ some. let many = some_of f.len some in pad_means (size_alone s f.size (omega (arith, len_is, many)) few each value) (λ _. no_digit)))
    where
      no_bytes : (xs : List ℕ) → length xs ≡ 0 → xs ≡ []
      no_bytes [] e = refl
      no_bytes (x ∷ xs) e = absurd (omega arith)

  extension_means : EndsInPart InExtension s f.size f.extension → LineMeans (s ++ b ∷ []) (extension_step f b)
  extension_means (text, passes, t, count) =
      on_test (LineMeans (s ++ b ∷ [])) (b == 13) _ _
      (λ cr. longer_front f.size f.extension CarriageReturn (Some text, passes, subst (λ c. IsSizeBefore f.size (s ++ b ∷ []) ((59 ∷ text) ++ c ∷ [])) (eqb-true b 13 cr) (then_push f.size s (59 ∷ text) b t), count))
      (λ no_cr. on_test (LineMeans (s ++ b ∷ [])) (b == 10) _ _
      (λ lf. inl (subst (λ c. NeverHasChunkLine (s ++ c ∷ [])) (sym (eqb-true b 10 lf)) (never_in_extension f.size s text passes t)))
      (λ no_lf. longer_front f.size (f.extension + 1) InExtension (
        text ++ b ∷ [],
        All-push (λ c. is_extension_byte c ≡ true) text b passes (passes_extension b no_cr no_lf),
        then_push f.size s (59 ∷ text) b t,
        omega (arith, count, length-append text (b ∷ [])),
      )))

  whole_line : EndsInPart CarriageReturn s f.size f.extension → LineMeans (s ++ 10 ∷ []) (Whole f.size f.extension)
  whole_line (e, is_extension, t, count) =
      let reads = reads_then f.size s (print_extension e ++ 13 ∷ []) (10 ∷ []) t e is_extension (append_assoc (print_extension e) (13 ∷ []) (10 ∷ [])) in
      let l = line_of t.digits t.pad e in
      let printed : s ++ 10 ∷ [] ≡ print_chunk_line l = reads.1 ∙ append-nil (print_chunk_line l) in
      (l, record { line = reads.0; short = omega (arith, length-append s (10 ∷ []), ap length printed) }, sym t.writes.value, sym count, printed)

  end_means : EndsInPart CarriageReturn s f.size f.extension → LineMeans (s ++ b ∷ []) (if b == 10 then Whole f.size f.extension else Broken)
  end_means ends =
      on_test (LineMeans (s ++ b ∷ [])) (b == 10) _ _
      (λ lf. subst (λ c. LineMeans (s ++ c ∷ []) (Whole f.size f.extension)) (sym (eqb-true b 10 lf)) (whole_line ends))
      (λ no_lf. inl (never_behind_cr f.size s ends.0 b ends.1 ends.2 (eqb-false b 10 no_lf)))

  part_means : (part : ChunkLinePart) → EndsInPart part s f.size f.extension → LineMeans (s ++ b ∷ []) (part_step part f b)
  part_means Digits ends = digits_mean ends
  part_means Pad ends = pad_means ends.0 (some_pad ends.0 ends.1)
    where
      some_pad : (t : IsSizeBefore f.size s []) → 0 < length t.pad → t.pad ≡ [] → is_ascii_hexdigit b ≡ false
      some_pad t some none = absurd (omega (arith, ap length none))
  part_means InExtension ends = extension_means ends
  part_means CarriageReturn ends = end_means ends

-- what a byte makes of the front of a chunk line
pub line_means : (s : List ℕ) (f : ChunkLineFront) (b : ℕ) → IsChunkLineFront s f → LineMeans (s ++ b ∷ []) (line_step f b)
line_means s f b h = part_means s f b h.len h.short f.part h.ends
