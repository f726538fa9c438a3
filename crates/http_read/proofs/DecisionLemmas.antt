-- A text begins with a head of the grammar, or it doesn't: each piece of the grammar is found or there is none.
use Rattle.std.proofs.Common.{◌≡◌, ℕ, zero, suc, ◌<◌, ◌≤◌, ◌⊎◌, inl, inr, Bool, true, false, List, [], ◌∷◌, ◌++◌, length, refl, sym, ap, ◌∙◌, subst, arith, append_assoc, length-append}
use Rattle.std.proofs.lemmas.Bool.{cases_eq, cases_lt, cases_Bool, both_ways}
use Rattle.std.proofs.lemmas.List.{append-nil}
use Rattle.std.proofs.lemmas.List.Elements.{All-nil, All-cons, All-head, All-tail}
use Rattle.std.proofs.lemmas.Str.{IsUtf8-from_is_utf8, is_utf8-from_IsUtf8}
use Rattle.std.specs.Prelude.{IsUtf8}
use Rattle.std.specs.List.{flat_map}
use Rattle.std.specs.Str.{is_utf8}
use Rattle.httparse.specs.Grammar.{AllPass, is_token_byte, is_uri_byte, is_value_byte, LineEnd, crlf, lf, print_end, print_blank, print_version, Field, IsField, print_field, print_section, RequestHead, ReadsRequest}
use Rattle.httparse.specs.Pieces.{Piece, Begins, Then, Stops, is_newline, Newline, Blank, Word, Target, Version, Text, FieldLine, Section, RequestStart}
use Rattle.httparse.proofs.RunLemmas.{run_unique}
use Rattle.httparse.proofs.PieceLemmas.{IsDeterministic, Word_deterministic, Method_deterministic, Target_deterministic, Version_deterministic, Blank_deterministic, RequestStart_deterministic, Name_deterministic, FieldLine_parts, Section_line, Section_skip, print_end_unique, newline_not_stopped, print_field-append, space_ends_token, colon_ends_token}
use Rattle.httparse.proofs.GrammarLemmas.{request_tree, request_head, request_pieces, request_from_pieces, request_unique}
use Rattle.http_read.specs.Head.{IsHead}

-- the piece stands at the front of the text, or it doesn't
abbrev Found : {A : Type 0} → Piece A → List ℕ → Type 0
Found G text = Begins G text ⊎ (¬ (Begins G text))

abbrev Decided : {A : Type 0} → Piece A → Type 0
Decided G = (text : List ℕ) → Found G text

-- two pieces in a row
decide_then : {A B : Type 0} (G : Piece A) (H : Piece B) → IsDeterministic G → Decided G → Decided H → Decided (Then G H)
decide_then {A} {B} G H det first second text = by_first (first text)
  where
    by_second : (a : A) (middle : List ℕ) → G a text middle → Found H middle → Found (Then G H) text
    by_second a middle g (inl h) = inl ((a, h.0), h.1, (middle, g, h.2))
    by_second a middle g (inr none) = inr (λ x.
        let same = det.unique x.0.0 a text x.2.0 middle x.2.1 g in
        none (x.0.1, x.1, subst (λ m. H x.0.1 m x.1) same.1 x.2.2))

    by_first : Found G text → Found (Then G H) text
    by_first (inl g) = by_second g.0 g.1 g.2 (second g.1)
    by_first (inr none) = inr (λ x. none (x.0.0, x.2.0, x.2.1))

-- these bytes stand at the front, or they don't
abbrev HasFront : List ℕ → List ℕ → Type 0
HasFront front text = ((rest : List ℕ) × (text ≡ front ++ rest)) ⊎ ((rest : List ℕ) → ¬ (text ≡ front ++ rest))

has_front : (front text : List ℕ) → HasFront front text
has_front [] text = inl (text, refl)
has_front (b ∷ front) [] = inr (λ rest e. cc)
has_front (b ∷ front) (c ∷ text) = by_byte (cases_eq c b) (has_front front text)
  where
    by_byte : (c ≡ b) ⊎ (c ≡ b → ⊥) → HasFront front text → HasFront (b ∷ front) (c ∷ text)
    by_byte (inl same) (inl (rest, e)) = inl (rest, λ i. same i ∷ e i)
    by_byte (inl same) (inr none) = inr (λ rest e. none rest (cc))
    by_byte (inr other) further = inr (λ rest e. other (cc))

-- ## Line ends, and the empty lines before a first line

decide_newline : Decided Newline
decide_newline text = by_fronts (has_front (13 ∷ 10 ∷ []) text) (has_front (10 ∷ []) text)
  where
    by_fronts : HasFront (13 ∷ 10 ∷ []) text → HasFront (10 ∷ []) text → Found Newline text
    by_fronts (inl (rest, e)) other = inl (crlf, rest, e)
    by_fronts (inr none) (inl (rest, e)) = inl (lf, rest, e)
    by_fronts (inr none) (inr neither) = inr (λ h. no_end h.0 h.1 h.2)
      where
        no_end : (end : LineEnd) (rest : List ℕ) → text ≡ print_end end ++ rest → ⊥
        no_end crlf rest e = none rest e
        no_end lf rest e = neither rest e

shorter : (end : LineEnd) (text rest : List ℕ) → text ≡ print_end end ++ rest → length rest < length text
shorter crlf text rest e = omega (arith, ap length e)
shorter lf text rest e = omega (arith, ap length e)

-- no line end stands at the front
stops_here : (text : List ℕ) → ¬ (Begins Newline text) → Found Blank text
stops_here [] none = inr (λ h. no_blank h.0 h.1 h.2.0 h.2.1)
  where
    no_blank : (ends : List LineEnd) (rest : List ℕ) → [] ≡ print_blank ends ++ rest → Stops is_newline rest → ⊥
    no_blank [] rest e stops = subst (Stops is_newline) (sym e) stops
    no_blank (end ∷ ends) rest e stops = none (end, print_blank ends ++ rest, e ∙ append_assoc (print_end end) (print_blank ends) rest)
stops_here (b ∷ text) none = by_byte (cases_Bool (is_newline b))
  where
    no_blank : is_newline b ≡ true → (ends : List LineEnd) (rest : List ℕ) → b ∷ text ≡ print_blank ends ++ rest → Stops is_newline rest → ⊥
    no_blank newline [] rest e stops = both_ways (is_newline b) (subst (Stops is_newline) (sym e) stops) newline
    no_blank newline (end ∷ ends) rest e stops = none (end, print_blank ends ++ rest, e ∙ append_assoc (print_end end) (print_blank ends) rest)

    by_byte : (is_newline b ≡ true) ⊎ (is_newline b ≡ false) → Found Blank (b ∷ text)
    by_byte (inl newline) = inr (λ h. no_blank newline h.0 h.1 h.2.0 h.2.1)
    by_byte (inr other) = inl ([], b ∷ text, (refl, other))

decide_blank_within : (n : ℕ) (text : List ℕ) → length text ≤ n → Found Blank text
decide_blank_within zero [] small = stops_here [] (λ h. absurd (omega (arith, shorter h.0 [] h.1 h.2)))
decide_blank_within zero (b ∷ text) small = absurd (omega arith)
decide_blank_within (suc n) text small = by_newline (decide_blank_within n) (decide_newline text)
  where
    by_rest : (end : LineEnd) (rest : List ℕ) → text ≡ print_end end ++ rest → Found Blank rest → Found Blank text
    by_rest end rest e (inl (ends, behind, (more, stops))) =
        inl (end ∷ ends, behind, (e ∙ ap (λ t. print_end end ++ t) more ∙ sym (append_assoc (print_end end) (print_blank ends) behind), stops))
    by_rest end rest e (inr none) = inr (λ h. no_blank h.0 h.1 h.2.0 h.2.1)
      where
        no_blank : (ends : List LineEnd) (behind : List ℕ) → text ≡ print_blank ends ++ behind → Stops is_newline behind → ⊥
        no_blank [] behind other stops = newline_not_stopped end rest text (sym e) (subst (Stops is_newline) (sym other) stops)
        no_blank (first ∷ ends) behind other stops =
            let same = print_end_unique end first rest (print_blank ends ++ behind) (sym e ∙ other ∙ append_assoc (print_end first) (print_blank ends) behind) in
            none (ends, behind, (same.1, stops))

    by_newline : ((rest : List ℕ) → length rest ≤ n → Found Blank rest) → Found Newline text → Found Blank text
    by_newline further (inl (end, rest, e)) = by_rest end rest e (further rest (omega (arith, shorter end text rest e, small)))
    by_newline further (inr none) = stops_here text none

decide_blank : Decided Blank
decide_blank text = decide_blank_within (length text) text (omega arith)

-- ## Words

-- bytes that pass the test, and the byte that stops them
abbrev UpTo : (ℕ → Bool) → ℕ → List ℕ → Type 0
UpTo test stop text = (word : List ℕ) × (rest : List ℕ) × AllPass test word × (text ≡ word ++ stop ∷ rest)

decide_run : (test : ℕ → Bool) (stop : ℕ) (text : List ℕ) → UpTo test stop text ⊎ (¬ (UpTo test stop text))
decide_run test stop [] = inr (λ h. absurd (omega (arith, ap length h.3, length-append h.0 (stop ∷ h.1))))
decide_run test stop (b ∷ text) = by_stop (decide_run test stop text) (cases_eq b stop)
  where
    no_more : (b ≡ stop → ⊥) → ¬ (UpTo test stop text) → (word rest : List ℕ) → AllPass test word → b ∷ text ≡ word ++ stop ∷ rest → ⊥
    no_more other none [] rest all e = other (cc)
    no_more other none (w ∷ word) rest all e = none (word, rest, All-tail (λ c. test c ≡ true) w word all, cc)

    fails_here : (b ≡ stop → ⊥) → test b ≡ false → (word rest : List ℕ) → AllPass test word → b ∷ text ≡ word ++ stop ∷ rest → ⊥
    fails_here other fails [] rest all e = other (cc)
    fails_here other fails (w ∷ word) rest all e =
        let same : w ≡ b = cc in
        both_ways (test b) fails (subst (λ c. test c ≡ true) same (All-head (λ c. test c ≡ true) w word all))

    by_rest : (b ≡ stop → ⊥) → test b ≡ true → UpTo test stop text ⊎ (¬ (UpTo test stop text)) → UpTo test stop (b ∷ text) ⊎ (¬ (UpTo test stop (b ∷ text)))
    by_rest other passes (inl (word, rest, all, e)) = inl (b ∷ word, rest, All-cons (λ c. test c ≡ true) b word passes all, ap (λ t. b ∷ t) e)
    by_rest other passes (inr none) = inr (λ h. no_more other none h.0 h.1 h.2 h.3)

    by_test : UpTo test stop text ⊎ (¬ (UpTo test stop text)) → (b ≡ stop → ⊥) → (test b ≡ true) ⊎ (test b ≡ false) → UpTo test stop (b ∷ text) ⊎ (¬ (UpTo test stop (b ∷ text)))
    by_test further other (inl passes) = by_rest other passes further
    by_test further other (inr fails) = inr (λ h. fails_here other fails h.0 h.1 h.2 h.3)

    by_stop : UpTo test stop text ⊎ (¬ (UpTo test stop text)) → (b ≡ stop) ⊎ (b ≡ stop → ⊥) → UpTo test stop (b ∷ text) ⊎ (¬ (UpTo test stop (b ∷ text)))
    by_stop further (inl is) = inl ([], text, All-nil (λ c. test c ≡ true), ap (λ c. c ∷ text) is)
    by_stop further (inr other) = by_test further other (cases_Bool (test b))

decide_word : (test : ℕ → Bool) (stop : ℕ) → test stop ≡ false → Decided (Word test stop)
decide_word test stop fails text = by_run (decide_run test stop text)
  where
    by_some : (word rest : List ℕ) → AllPass test word → text ≡ word ++ stop ∷ rest → Found (Word test stop) text
    by_some [] rest all e = inr (λ h.
        let same = run_unique test h.0 [] (stop ∷ h.1) (stop ∷ rest) h.2.1 all fails fails (sym h.2.2 ∙ e) in
        absurd (omega (arith, ap length same.0, h.2.0)))
    by_some (w ∷ word) rest all e = inl (w ∷ word, rest, (omega arith, all, e))

    by_run : UpTo test stop text ⊎ (¬ (UpTo test stop text)) → Found (Word test stop) text
    by_run (inl (word, rest, all, e)) = by_some word rest all e
    by_run (inr none) = inr (λ h. none (h.0, h.1, h.2.1, h.2.2))

decide_target : Decided Target
decide_target text = by_word (decide_word is_uri_byte 32 refl text)
  where
    by_text : (word rest : List ℕ) → Word is_uri_byte 32 word text rest → (is_utf8 word ≡ true) ⊎ (is_utf8 word ≡ false) → Found Target text
    by_text word rest w (inl utf8) = inl (word, rest, (w, IsUtf8-from_is_utf8 word utf8))
    by_text word rest w (inr other) = inr (λ h.
        let same = (Word_deterministic is_uri_byte 32 refl).unique h.0 word text h.1 rest h.2.0 w in
        both_ways (is_utf8 word) other (is_utf8-from_IsUtf8 word (subst IsUtf8 same.0 h.2.1)))

    by_word : Found (Word is_uri_byte 32) text → Found Target text
    by_word (inl (word, rest, w)) = by_text word rest w (cases_Bool (is_utf8 word))
    by_word (inr none) = inr (λ h. none (h.0, h.1, h.2.0))

decide_version : Decided Version
decide_version text = by_fronts (has_front (print_version 0) text) (has_front (print_version 1) text)
  where
    by_fronts : HasFront (print_version 0) text → HasFront (print_version 1) text → Found Version text
    by_fronts (inl (rest, e)) other = inl (0, rest, (omega arith, e))
    by_fronts (inr none) (inl (rest, e)) = inl (1, rest, (omega arith, e))
    by_fronts (inr none) (inr neither) = inr (λ h. no_version h.0 h.1 h.2.0 h.2.1)
      where
        no_version : (minor : ℕ) (rest : List ℕ) → minor ≤ 1 → text ≡ print_version minor ++ rest → ⊥
        no_version zero rest small e = none rest e
        no_version (suc zero) rest small e = neither rest e
        no_version (suc (suc n)) rest small e = absurd (omega arith)

decide_version_end : Decided (Then Version Newline)
decide_version_end = decide_then Version Newline Version_deterministic decide_version decide_newline

decide_target_end : Decided (Then Target (Then Version Newline))
decide_target_end = decide_then Target (Then Version Newline) Target_deterministic decide_target decide_version_end

decide_first_line : Decided (Then (Word is_token_byte 32) (Then Target (Then Version Newline)))
decide_first_line =
    decide_then (Word is_token_byte 32) (Then Target (Then Version Newline)) Method_deterministic (decide_word is_token_byte 32 space_ends_token) decide_target_end

decide_start : Decided RequestStart
decide_start = decide_then Blank (Then (Word is_token_byte 32) (Then Target (Then Version Newline))) Blank_deterministic decide_blank decide_first_line

-- ## Field lines

decide_text : Decided Text
decide_text [] = inr (λ h. no_text h.0.0 h.0.1 h.1 h.2.1)
  where
    no_text : (raw : List ℕ) (end : LineEnd) (rest : List ℕ) → [] ≡ raw ++ (print_end end ++ rest) → ⊥
    no_text [] crlf rest e = cc
    no_text [] lf rest e = cc
    no_text (b ∷ raw) end rest e = cc
decide_text (b ∷ text) = by_newline (decide_text text) (decide_newline (b ∷ text))
  where
    no_more : ¬ (Begins Newline (b ∷ text)) → ¬ (Begins Text text) → (raw : List ℕ) (end : LineEnd) (rest : List ℕ) → AllPass is_value_byte raw → b ∷ text ≡ raw ++ (print_end end ++ rest) → ⊥
    no_more none further [] end rest all e = none (end, rest, e)
    no_more none further (w ∷ raw) end rest all e = further ((raw, end), rest, (All-tail (λ c. is_value_byte c ≡ true) w raw all, cc))

    fails_here : ¬ (Begins Newline (b ∷ text)) → is_value_byte b ≡ false → (raw : List ℕ) (end : LineEnd) (rest : List ℕ) → AllPass is_value_byte raw → b ∷ text ≡ raw ++ (print_end end ++ rest) → ⊥
    fails_here none fails [] end rest all e = none (end, rest, e)
    fails_here none fails (w ∷ raw) end rest all e =
        let same : w ≡ b = cc in
        both_ways (is_value_byte b) fails (subst (λ c. is_value_byte c ≡ true) same (All-head (λ c. is_value_byte c ≡ true) w raw all))

    by_rest : ¬ (Begins Newline (b ∷ text)) → is_value_byte b ≡ true → Found Text text → Found Text (b ∷ text)
    by_rest none passes (inl ((raw, end), rest, (all, e))) =
        inl ((b ∷ raw, end), rest, (All-cons (λ c. is_value_byte c ≡ true) b raw passes all, ap (λ t. b ∷ t) e))
    by_rest none passes (inr further) = inr (λ h. no_more none further h.0.0 h.0.1 h.1 h.2.0 h.2.1)

    by_byte : Found Text text → ¬ (Begins Newline (b ∷ text)) → (is_value_byte b ≡ true) ⊎ (is_value_byte b ≡ false) → Found Text (b ∷ text)
    by_byte further none (inl passes) = by_rest none passes further
    by_byte further none (inr fails) = inr (λ h. fails_here none fails h.0.0 h.0.1 h.1 h.2.0 h.2.1)

    by_newline : Found Text text → Found Newline (b ∷ text) → Found Text (b ∷ text)
    by_newline further (inl (end, rest, e)) = inl (([], end), rest, (All-nil (λ c. is_value_byte c ≡ true), e))
    by_newline further (inr none) = by_byte further none (cases_Bool (is_value_byte b))

decide_field : Decided FieldLine
decide_field text = by_parts (decide_then (Word is_token_byte 58) Text Name_deterministic (decide_word is_token_byte 58 colon_ends_token) decide_text text)
  where
    by_parts : Found (Then (Word is_token_byte 58) Text) text → Found FieldLine text
    by_parts (inl ((name, (raw, end)), rest, (middle, word, value))) =
        let f : Field = record { name = name; raw = raw; end = end } in
        inl (
          f,
          rest,
          (
            record { name = (word.0, word.1); raw = value.0 },
            word.2 ∙ ap (λ t. name ++ 58 ∷ t) value.1 ∙ sym (print_field-append f rest),
          ),
        )
    by_parts (inr none) = inr (λ h. none ((h.0.name, (h.0.raw, h.0.end)), h.1, FieldLine_parts h.0 text h.1 h.2))

field_shorter : (f : Field) (text rest : List ℕ) → FieldLine f text rest → length rest < length text
field_shorter f text rest x =
    omega (arith, ap length (x.1 ∙ print_field-append f rest), length-append f.name (58 ∷ (f.raw ++ (print_end f.end ++ rest))), length-append f.raw (print_end f.end ++ rest), length-append (print_end f.end) rest)

decide_section_within : (n : ℕ) (text : List ℕ) → length text ≤ n → Found Section text
decide_section_within zero [] small = inr (λ h. no_section (Section_line h.0 [] h.1 h.2))
  where
    no_section : Begins Newline [] ⊎ Begins FieldLine [] → ⊥
    no_section (inl (end, rest, e)) = absurd (omega (arith, shorter end [] rest e))
    no_section (inr (f, rest, x)) = absurd (omega (arith, field_shorter f [] rest x))
decide_section_within zero (b ∷ text) small = absurd (omega arith)
decide_section_within (suc n) text small = by_newline (decide_section_within n) (decide_newline text)
  where
    by_rest : (f : Field) (middle : List ℕ) → ¬ (Begins Newline text) → FieldLine f text middle → Found Section middle → Found Section text
    by_rest f middle none x (inl ((fields, last), rest, (all, e))) =
        inl (
          (f ∷ fields, last),
          rest,
          (
            All-cons IsField f fields x.0 all,
            x.1 ∙ ap (λ t. print_field f ++ t) e ∙ sym (append_assoc (print_field f) (print_section fields last) rest)
                ∙ ap (λ t. t ++ rest) (sym (append_assoc (print_field f) (flat_map print_field fields) (print_end last))),
          ),
        )
    by_rest f middle none x (inr further) = inr (λ h.
        let skipped = Section_skip (f ∷ []) h.0.0 h.0.1 text middle h.1
        (All-cons IsField f [] x.0 (All-nil IsField), x.1 ∙ ap (λ t. t ++ middle) (sym (append-nil (print_field f)))) h.2 in
        further ((skipped.0, h.0.1), h.1, skipped.2))

    by_field : ((middle : List ℕ) → length middle ≤ n → Found Section middle) → ¬ (Begins Newline text) → Found FieldLine text → Found Section text
    by_field further none (inl (f, middle, x)) = by_rest f middle none x (further middle (omega (arith, field_shorter f text middle x, small)))
    by_field further none (inr no_field) = inr (λ h. neither (Section_line h.0 text h.1 h.2))
      where
        neither : Begins Newline text ⊎ Begins FieldLine text → ⊥
        neither (inl newline) = none newline
        neither (inr field) = no_field field

    by_newline : ((middle : List ℕ) → length middle ≤ n → Found Section middle) → Found Newline text → Found Section text
    by_newline further (inl (end, rest, e)) = inl (([], end), rest, (All-nil IsField, e))
    by_newline further (inr none) = by_field further none (decide_field text)

decide_section : Decided Section
decide_section text = decide_section_within (length text) text (omega arith)

-- ## Heads

-- the text is a head with so many fields at most, or none is
abbrev pub HeadOrNone : ℕ → List ℕ → Type 0
HeadOrNone most text = ((head : RequestHead) × IsHead most text head) ⊎ ((head : RequestHead) → ¬ (IsHead most text head))

pub head_or_none : (most : ℕ) (text : List ℕ) → HeadOrNone most text
head_or_none most text = by_pieces (decide_then RequestStart Section RequestStart_deterministic decide_start decide_section text)
  where
    by_count : (head : RequestHead) → ReadsRequest text head [] → (most < length head.fields) ⊎ (length head.fields ≤ most) → HeadOrNone most text
    by_count head reads (inl above) = inr (λ other h.
        let same = (request_unique text other head [] [] h.reads reads).0 in
        absurd (omega (arith, h.fields_fit, ap (λ (k : RequestHead). length k.fields) same)))
    by_count head reads (inr fits) = inl (head, record { reads = reads; fields_fit = fits })

    by_rest : (head : RequestHead) (rest : List ℕ) → ReadsRequest text head rest → HeadOrNone most text
    by_rest head [] reads = by_count head reads (cases_lt most (length head.fields))
    by_rest head (b ∷ rest) reads = inr (λ other h.
        let same = (request_unique text other head [] (b ∷ rest) h.reads reads).1 in
        absurd (omega (arith, ap length same)))

    by_pieces : Found (Then RequestStart Section) text → HeadOrNone most text
    by_pieces (inl (tree, rest, x)) = by_rest (request_head tree) rest (request_from_pieces text tree rest x)
    by_pieces (inr none) = inr (λ head h. none (request_tree head, [], request_pieces text head [] h.reads))
