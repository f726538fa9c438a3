-- A line is read back by the common log format, and a text of lines is split into them.
use Rattle.std.proofs.Common.{◌≡◌, ◌≢◌, ℕ, suc, ◌+◌, ◌<◌, ◌==◌, ◌/◌, ◌%◌, Bool, true, false, List, [], ◌∷◌, ◌++◌, length, map, take, drop, codes, not, refl, sym, ap, subst, ◌∙◌, append_assoc, arith}
use Rattle.std.specs.Prelude.{Some, if◌then◌else◌}
use Rattle.std.specs.List.{All, list_all, before_first, after_first}
use Rattle.std.specs.Fmt.{decimal, digit_glyph}
use Rattle.std.proofs.lemmas.Bool.Decides.{nat_tests}
use Rattle.std.proofs.lemmas.List.{take_at}
use Rattle.std.proofs.lemmas.List.Elements.{All-head, All-tail}
use Rattle.std.proofs.lemmas.List.Splits.{slice_split_at}
use Rattle.std.proofs.Math.Seq.{drop-append-add}
use Rattle.mpm_base.specs.Moment.{IsSecond}
use Rattle.access_log.specs.RequestLine.{is_feed, lines_of}
use Rattle.access_log.specs.EscapedLine.{is_marked, is_printed, escaped}
use Rattle.access_log.specs.LogTime.{parts_at, time_text}
use Rattle.access_log.specs.LogLine.{Logged, address_text, quoted_text, size_text, line_text, log_text}
use Rattle.access_log.specs.LogReading.{IsReadBack, behind_quote, behind_request, code_in, host_in, quoted_len, request_in, size_in, time_in, unescaped}
use Rattle.access_log.proofs.EscapeLemmas.{escaped_back, escaped_len, hyphen_len}
use Rattle.access_log.proofs.SplitLemmas.{HasNone, after_at, before_at, none_both, none_empty, none_more, none_tested}
use Rattle.access_log.proofs.TimeLemmas.{day_within, year_within, hour_within, minute_within, second_within}
use Rattle.access_log.proofs.WordLemmas.{AreWords, address_words, decimal_words, size_words, time_words, without_closing, without_feed, without_opening, without_quote, without_space}

-- ## The parts of a line

-- what stands between the address and the time, and behind the time up to the quote
abbrev before_time : List ℕ
before_time = 32 ∷ 45 ∷ 32 ∷ 45 ∷ 32 ∷ []

abbrev zone : List ℕ
zone = codes " +0000"

module _ (host time quoted code size : List ℕ) where
  -- the line, from the address, from the time, from the request line and from the code on
  abbrev from_code : List ℕ
  from_code = code ++ 32 ∷ size

  abbrev from_request : List ℕ
  from_request = quoted ++ 34 ∷ 32 ∷ from_code

  abbrev from_time : List ℕ
  from_time = (time ++ zone) ++ 93 ∷ 32 ∷ 34 ∷ from_request

  abbrev whole : List ℕ
  whole = (host ++ before_time) ++ 91 ∷ from_time

  abbrev before_request : List ℕ
  before_request = (host ++ before_time) ++ 91 ∷ ((time ++ zone) ++ 93 ∷ 32 ∷ [])

  regrouped : host ++ codes " - - [" ++ time ++ codes " +0000] \"" ++ quoted ++ codes "\" " ++ code ++ codes " " ++ size ≡ whole
  regrouped = simp append_assoc

  at_space : whole ≡ host ++ 32 ∷ (45 ∷ 32 ∷ 45 ∷ 32 ∷ 91 ∷ from_time)
  at_space = simp append_assoc

  at_quote : whole ≡ before_request ++ 34 ∷ from_request
  at_quote = simp append_assoc

  module _ (hosts : AreWords host) (times : AreWords time) (code_words : AreWords code) (len : quoted_len from_request ≡ length quoted) where
    host_back : host_in whole ≡ host
    host_back = ap host_in at_space ∙ before_at (λ b. b == 32) host 32 (45 ∷ 32 ∷ 45 ∷ 32 ∷ 91 ∷ from_time) (without_space hosts) refl

    no_opening : HasNone (λ b. b == 91) (host ++ before_time)
    no_opening = none_both (without_opening hosts) (none_tested (λ b. b == 91) before_time refl)

    no_closing : HasNone (λ b. b == 93) (time ++ zone)
    no_closing = none_both (without_closing times) (none_tested (λ b. b == 93) zone refl)

    time_back : time_in whole ≡ time ++ zone
    time_back =
        ap (before_first (λ b. b == 93)) (after_at (λ b. b == 91) (host ++ before_time) 91 from_time no_opening refl)
        ∙ before_at (λ b. b == 93) (time ++ zone) 93 (32 ∷ 34 ∷ from_request) no_closing refl

    no_quote : HasNone (λ b. b == 34) before_request
    no_quote =
        none_both (none_both (without_quote hosts) (none_tested (λ b. b == 34) before_time refl))
        (none_more (λ b. b == 34) 91 ((time ++ zone) ++ 93 ∷ 32 ∷ []) refl
        (none_both (none_both (without_quote times) (none_tested (λ b. b == 34) zone refl)) (none_tested (λ b. b == 34) (93 ∷ 32 ∷ []) refl)))

    behind_is : behind_quote whole ≡ from_request
    behind_is = ap behind_quote at_quote ∙ after_at (λ b. b == 34) before_request 34 from_request no_quote refl

    request_back : request_in whole ≡ quoted
    request_back = ap (λ text. take (quoted_len text) text) behind_is ∙ ap (λ n. take n from_request) len ∙ take_at quoted (34 ∷ 32 ∷ from_code) (length quoted) refl

    rest_is : behind_request whole ≡ from_code
    rest_is =
        ap (λ text. drop (quoted_len text + 2) text) behind_is ∙ ap (λ n. drop (n + 2) from_request) len ∙ drop-append-add quoted (34 ∷ 32 ∷ from_code) 2

    code_back : code_in whole ≡ code
    code_back = ap (before_first (λ b. b == 32)) rest_is ∙ before_at (λ b. b == 32) code 32 size (without_space code_words) refl

    size_back : size_in whole ≡ size
    size_back = ap (after_first (λ b. b == 32)) rest_is ∙ after_at (λ b. b == 32) code 32 size (without_space code_words) refl

-- ## A line of the log

nonempty : (n : ℕ) → (suc n == 0) ≡ false
nonempty n = grind (arith, nat_tests)

quoted_some : (b : ℕ) (line : List ℕ) → quoted_text (b ∷ line) ≡ escaped (b ∷ line)
quoted_some b line = ap (λ (empty : Bool). if empty then codes "-" else escaped (b ∷ line)) (nonempty (length line))

quoted_ends : (line rest : List ℕ) → quoted_len (quoted_text line ++ 34 ∷ rest) ≡ length (quoted_text line)
quoted_ends [] rest = hyphen_len rest
quoted_ends (b ∷ line) rest =
    ap (λ text. quoted_len (text ++ 34 ∷ rest)) (quoted_some b line) ∙ escaped_len (b ∷ line) rest ∙ ap length (sym (quoted_some b line))

quoted_back : (line : List ℕ) → line ≢ [] → All (λ b. b < 256) line → unescaped (quoted_text line) ≡ Some line
quoted_back [] some bytes = absurd (some refl)
quoted_back (b ∷ line) some bytes = ap unescaped (quoted_some b line) ∙ escaped_back (b ∷ line) bytes

times_of : (second : ℕ) → IsSecond second → AreWords (time_text (parts_at second))
times_of second h = time_words (parts_at second) (day_within second h) (year_within second) (hour_within second) (minute_within second) (second_within second)

pub read_back : (e : Logged) → IsSecond e.date → All (λ b. b < 256) e.line → IsReadBack e
read_back e second bytes =
    let host = address_text e.peer in
    let time = time_text (parts_at e.date) in
    let quoted = quoted_text e.line in
    let code = decimal e.code in
    let size = size_text e.size in
    let same = regrouped host time quoted code size in
    let hosts = address_words e.peer in
    let times = times_of e.date second in
    let code_words = decimal_words e.code in
    let ends = quoted_ends e.line (32 ∷ (code ++ 32 ∷ size)) in
    let request = ap request_in same ∙ request_back host time quoted code size hosts times code_words ends in
    record {
      host = ap host_in same ∙ host_back host time quoted code size hosts times code_words ends;
      time = ap time_in same ∙ time_back host time quoted code size hosts times code_words ends;
      request = request;
      line = λ some. ap unescaped request ∙ quoted_back e.line some bytes;
      code = ap code_in same ∙ code_back host time quoted code size hosts times code_words ends;
      size = ap size_in same ∙ size_back host time quoted code size hosts times code_words ends;
    }

-- ## The lines of a text

printed_no_feed : (b : ℕ) → is_printed b ≡ true → (b == 10) ≡ false
printed_no_feed b h = grind (arith, nat_tests)

marked_no_feed : (b : ℕ) → is_marked b ≡ true → (b == 10) ≡ false
marked_no_feed b h = grind (arith, nat_tests)

digit_no_feed : (n : ℕ) → (digit_glyph false n == 10) ≡ false
digit_no_feed n = grind (arith, nat_tests)

any_no_feed : (b : ℕ) (marked printed : Bool) → is_marked b ≡ marked → is_printed b ≡ printed
    → HasNone (λ b. b == 10) (if marked then 92 ∷ b ∷ [] else (if printed then b ∷ [] else 92 ∷ 120 ∷ digit_glyph false (b / 16) ∷ digit_glyph false (b % 16) ∷ []))
any_no_feed b true printed h k = none_more is_feed 92 (b ∷ []) refl (none_more is_feed b [] (marked_no_feed b h) (none_empty is_feed))
any_no_feed b false true h k = none_more is_feed b [] (printed_no_feed b k) (none_empty is_feed)
any_no_feed b false false h k =
    let high = digit_glyph false (b / 16) in
    let low = digit_glyph false (b % 16) in
    none_more is_feed 92 (120 ∷ high ∷ low ∷ []) refl (none_more is_feed 120 (high ∷ low ∷ []) refl
    (none_more is_feed high (low ∷ []) (digit_no_feed (b / 16)) (none_more is_feed low [] (digit_no_feed (b % 16)) (none_empty is_feed))))

escaped_no_feed : (line : List ℕ) → HasNone is_feed (escaped line)
escaped_no_feed [] = none_empty is_feed
escaped_no_feed (b ∷ line) = none_both (any_no_feed b (is_marked b) (is_printed b) refl refl) (escaped_no_feed line)

quoted_no_feed : (line : List ℕ) → HasNone is_feed (quoted_text line)
quoted_no_feed [] = none_tested is_feed (codes "-") refl
quoted_no_feed (b ∷ line) = subst (HasNone is_feed) (sym (quoted_some b line)) (escaped_no_feed (b ∷ line))

line_no_feed : (e : Logged) → IsSecond e.date → HasNone is_feed (line_text e)
line_no_feed e second =
    let plain = λ (text : List ℕ) (h : list_all (λ b. not (is_feed b)) text ≡ true). none_tested is_feed text h in
    none_both (none_both (none_both (none_both (none_both (none_both (none_both (none_both
    (without_feed (address_words e.peer)) (plain (codes " - - [") refl)) (without_feed (times_of e.date second))) (plain (codes " +0000] \"") refl))
    (quoted_no_feed e.line)) (plain (codes "\" ") refl)) (without_feed (decimal_words e.code))) (plain (codes " ") refl)) (without_feed (size_words e.size))

pub apart : (entries : List Logged) → All (λ e. IsSecond e.date) entries → lines_of (log_text entries) ≡ map line_text entries ++ [] ∷ []
apart [] h = refl
apart (e ∷ entries) h =
    let line = line_no_feed e (All-head (λ e. IsSecond e.date) e entries h) in
    let rest = apart entries (All-tail (λ e. IsSecond e.date) e entries h) in
    ap lines_of (append_assoc (line_text e) (10 ∷ []) (log_text entries)) ∙ slice_split_at is_feed (line_text e) 10 (log_text entries) line.each refl
    ∙ ap (λ lines. line_text e ∷ lines) rest
