-- The bytes of addresses, times, codes and sizes: none of them is a space, a quote, a bracket or a line feed.
use Rattle.std.proofs.Common.{◌≡◌, ℕ, zero, suc, ◌+◌, ◌-◌, ◌/◌, ◌%◌, ◌<◌, ◌==◌, ◌&&◌, ◌||◌, nat_le, Bool, true, false, List, [], ◌∷◌, ◌++◌, codes, refl, arith, get_or}
use Rattle.std.specs.Prelude.{if◌then◌else◌}
use Rattle.std.specs.List.{All, list_all}
use Rattle.std.specs.Fmt.{decimal, digits, digits_onto, digit_glyph}
use Rattle.std.proofs.lemmas.Bool.{and_parts}
use Rattle.std.proofs.lemmas.Bool.Decides.{nat_tests}
use Rattle.std.proofs.lemmas.List.Elements.{All-nil, All-cons, All-append}
use Rattle.std.proofs.lemmas.List.Sums.{AllPass-from_list_all}
use Rattle.httpdate.specs.declared.parts.Parts.{Parts}
use Rattle.httpdate.specs.Text.{two_digits, month_name}
use Rattle.access_log.specs.LogTime.{time_text}
use Rattle.access_log.specs.LogLine.{address_text, size_text}
use Rattle.access_log.proofs.SplitLemmas.{HasNone, none_of}

-- a byte between + and Z, or one from a on
abbrev pub is_word : ℕ → Bool
is_word b = nat_le 43 b && (nat_le b 90 || nat_le 97 b)

pub record AreWords (text : List ℕ) : Type 0 where
  pub each : All (λ b. is_word b ≡ true) text

-- ## What they are not

no_space : (b : ℕ) → is_word b ≡ true → (b == 32) ≡ false
no_space b h = grind (arith, nat_tests)

no_quote : (b : ℕ) → is_word b ≡ true → (b == 34) ≡ false
no_quote b h = grind (arith, nat_tests)

no_opening : (b : ℕ) → is_word b ≡ true → (b == 91) ≡ false
no_opening b h = grind (arith, nat_tests)

no_closing : (b : ℕ) → is_word b ≡ true → (b == 93) ≡ false
no_closing b h = grind (arith, nat_tests)

no_feed : (b : ℕ) → is_word b ≡ true → (b == 10) ≡ false
no_feed b h = grind (arith, nat_tests)

pub without_space : {text : List ℕ} → AreWords text → HasNone (λ b. b == 32) text
without_space {text} h = none_of (λ b. b == 32) is_word text no_space h.each

pub without_quote : {text : List ℕ} → AreWords text → HasNone (λ b. b == 34) text
without_quote {text} h = none_of (λ b. b == 34) is_word text no_quote h.each

pub without_opening : {text : List ℕ} → AreWords text → HasNone (λ b. b == 91) text
without_opening {text} h = none_of (λ b. b == 91) is_word text no_opening h.each

pub without_closing : {text : List ℕ} → AreWords text → HasNone (λ b. b == 93) text
without_closing {text} h = none_of (λ b. b == 93) is_word text no_closing h.each

pub without_feed : {text : List ℕ} → AreWords text → HasNone (λ b. b == 10) text
without_feed {text} h = none_of (λ b. b == 10) is_word text no_feed h.each

-- ## Texts that are made of them

no_words : AreWords []
no_words = record { each = All-nil (λ b. is_word b ≡ true) }

one_more : (b : ℕ) (text : List ℕ) → is_word b ≡ true → AreWords text → AreWords (b ∷ text)
one_more b text h more = record { each = All-cons (λ b. is_word b ≡ true) b text h more.each }

pub both : {xs ys : List ℕ} → AreWords xs → AreWords ys → AreWords (xs ++ ys)
both {xs} {ys} h k = record { each = All-append (λ b. is_word b ≡ true) xs ys h.each k.each }

tested : (text : List ℕ) → list_all is_word text ≡ true → AreWords text
tested text h = record { each = AllPass-from_list_all is_word text h }

either : (b : Bool) (xs ys : List ℕ) → AreWords xs → AreWords ys → AreWords (if b then xs else ys)
either true xs ys h k = h
either false xs ys h k = k

-- ## Numbers

glyph_word : (n : ℕ) → n < 10 → is_word (digit_glyph false n) ≡ true
glyph_word n h = grind (arith, nat_tests)

onto_words : (k n : ℕ) (text : List ℕ) → AreWords text → AreWords (digits_onto k 10 false n text)
onto_words zero n text h = h
onto_words (suc k) n text h =
    let more = one_more (digit_glyph false (n % 10)) text (glyph_word (n % 10) (omega arith)) h in
    either (n / 10 == 0) (digit_glyph false (n % 10) ∷ text) (digits_onto k 10 false (n / 10) (digit_glyph false (n % 10) ∷ text)) more
    (onto_words k (n / 10) (digit_glyph false (n % 10) ∷ text) more)

pub decimal_words : (n : ℕ) → AreWords (decimal n)
unfolding digits
decimal_words n = onto_words 64 n [] no_words

pub address_words : (peer : List ℕ) → AreWords (address_text peer)
address_words [] = no_words
address_words (a ∷ []) = decimal_words a
address_words (a ∷ b ∷ peer) = both (decimal_words a) (one_more 46 (address_text (b ∷ peer)) refl (address_words (b ∷ peer)))

pub size_words : (size : ℕ) → AreWords (size_text size)
size_words size = either (size == 0) (codes "-") (decimal size) (tested (codes "-") refl) (decimal_words size)

-- ## Times

digit_word : (n : ℕ) → n < 43 → is_word (48 + n) ≡ true
digit_word n h = grind (arith, nat_tests)

two_words : (n : ℕ) → n < 430 → AreWords (two_digits n)
two_words n h =
    one_more (48 + n / 10) ((48 + n % 10) ∷ []) (digit_word (n / 10) (omega arith)) (one_more (48 + n % 10) [] (digit_word (n % 10) (omega arith)) no_words)

names_word : (names : List (List ℕ)) → list_all (list_all is_word) names ≡ true → (i : ℕ) → list_all is_word (get_or names i []) ≡ true
names_word [] h i = refl
names_word (name ∷ names) h zero = (and_parts (list_all is_word name) (list_all (list_all is_word) names) h).0
names_word (name ∷ names) h (suc i) = names_word names (and_parts (list_all is_word name) (list_all (list_all is_word) names) h).1 i

month_words : (month : ℕ) → AreWords (month_name month)
month_words month =
    tested (month_name month)
    (names_word (codes "Jan" ∷ codes "Feb" ∷ codes "Mar" ∷ codes "Apr" ∷ codes "May" ∷ codes "Jun" ∷ codes "Jul" ∷ codes "Aug" ∷ codes "Sep" ∷ codes "Oct" ∷ codes "Nov" ∷ codes "Dec" ∷ []) refl (month - 1))

slash : AreWords (codes "/")
slash = tested (codes "/") refl

colon : AreWords (codes ":")
colon = tested (codes ":") refl

pub time_words : (p : Parts) → p.day < 400 → p.year < 10000 → p.hour < 24 → p.min < 60 → p.sec < 60 → AreWords (time_text p)
time_words p day year hour min sec =
    let date = both (both (both (both (two_words p.day (omega arith)) slash) (month_words p.mon)) slash) (both (two_words (p.year / 100) (omega arith)) (two_words (p.year % 100) (omega arith))) in
    let clock = both (both (both (both (two_words p.hour (omega arith)) colon) (two_words p.min (omega arith))) colon) (two_words p.sec (omega arith)) in
    both (both date colon) clock
