-- The words of a line as they are cut at the first blank or the first quote.
use Rattle.std.proofs.Common.{◌≡◌, ℕ, ◌+◌, ◌<◌, ◌≤◌, ◌==◌, nat_lt, if◌then◌else◌, cond, Bool, true, false, not, List, [], ◌∷◌, Option, Some, None, unwrap_or, position, length, take, drop, refl, ap, sym, arith, one-add, add-one, suc, get_or}
use Rattle.std.specs.Str.{IsCharBoundary, IsUtf8}
use Rattle.std.proofs.lemmas.List.Sums.{passes_at_first}
use Rattle.std.proofs.lemmas.Str.{IsCharBoundary-after_ascii}
use Rattle.std.specs.List.{position_or_len, before_first}
use Rattle.std.proofs.lemmas.Bool.Decides.{nat_tests}
use Rattle.std.proofs.lemmas.Grind.{common_steps}
use Rattle.conf_text.specs.Parts.{parts_around, Parts}
use Rattle.conf_text.specs.Words.{Word, Closed, Unclosed, is_blank, words, in_word, in_quotes, with_first_byte}

-- the first place is not past the end
pub position-le : (p : ℕ → Bool) (xs : List ℕ) → position_or_len p xs ≤ length xs
position-le p [] = omega arith
position-le p (x ∷ xs) = grind (arith, common_steps, position-le p xs)

pub position-or : (p : ℕ → Bool) (xs : List ℕ) → unwrap_or (position p xs) (length xs) ≡ position_or_len p xs
position-or p xs = grind (arith, nat_tests, position-le p xs)

-- one more byte of a word without quotes
bare_step : (t : Bool) (b : ℕ) (bs : List ℕ) (n : ℕ) (ws : List Word) → (t ≡ true → words (b ∷ bs) ≡ words bs)
    → ws ≡ Closed (take n bs) ∷ words (drop n bs)
    → (if t then Closed [] ∷ words bs else with_first_byte b ws) ≡ Closed (take (cond (not t) (1 + n) 0) (b ∷ bs)) ∷ words (drop (cond (not t) (1 + n) 0) (b ∷ bs))
bare_step true b bs n ws w e = ap (λ l. Closed [] ∷ l) (sym (w refl))
bare_step false b bs n ws w e = rw (e, one-add) refl

-- a blank is skipped
blank_words : (b : ℕ) (bs : List ℕ) → is_blank b ≡ true → words (b ∷ bs) ≡ words bs
blank_words b bs h = rw h refl

pub bare_words : (xs : List ℕ) → in_word xs ≡ Closed (before_first is_blank xs) ∷ words (drop (position_or_len is_blank xs) xs)
bare_words [] = refl
bare_words (b ∷ bs) = bare_step (is_blank b) b bs (position_or_len is_blank bs) (in_word bs) (blank_words b bs) (bare_words bs)

-- what the words in quotes are, by where the next quote is
abbrev pub quoted : Option Parts → List Word
quoted None = Unclosed ∷ []
quoted (Some p) = Closed p.before ∷ words p.after

longer : (t : Bool) (b : ℕ) (bs : List ℕ) (n : ℕ) (ws : List Word)
    → ws ≡ quoted (if t then Some (record { before = take n bs; after = drop (n + 1) bs }) else None)
    → with_first_byte b ws ≡ quoted (if t then Some (record { before = take (1 + n) (b ∷ bs); after = drop (1 + n + 1) (b ∷ bs) }) else None)
longer true b bs n ws e = rw e (simp (one-add, add-one))
longer false b bs n ws e = rw e refl

quote_step : (t : Bool) (b : ℕ) (bs : List ℕ) (n : ℕ) (ws : List Word)
    → ws ≡ quoted (if nat_lt n (length bs) then Some (record { before = take n bs; after = drop (n + 1) bs }) else None)
    → (if t then Closed [] ∷ words bs else with_first_byte b ws)
    ≡ quoted (if nat_lt (cond (not t) (1 + n) 0) (length (b ∷ bs)) then Some (record { before = take (cond (not t) (1 + n) 0) (b ∷ bs); after = drop (cond (not t) (1 + n) 0 + 1) (b ∷ bs) }) else None)
quote_step true b bs n ws e =
    let first : nat_lt 0 (suc (length bs)) ≡ true = grind (arith, nat_tests) in
    rw first refl
quote_step false b bs n ws e =
    let same : nat_lt (1 + n) (suc (length bs)) ≡ nat_lt n (length bs) = grind (arith, nat_tests) in
    rw same (longer (nat_lt n (length bs)) b bs n ws e)

pub quoted_words : (xs : List ℕ) → in_quotes xs ≡ quoted (parts_around 34 xs)
quoted_words [] = refl
quoted_words (b ∷ bs) = quote_step (b == 34) b bs (position_or_len (λ c. c == 34) bs) (in_quotes bs) (quoted_words bs)

-- a blank is an ASCII character
pub blank_is_ascii : (b : ℕ) → is_blank b ≡ true → b < 128
blank_is_ascii b h = grind (arith, nat_tests)

-- a text may be cut before its first blank
pub blank_boundary : (xs : List ℕ) → IsCharBoundary xs (position_or_len is_blank xs)
blank_boundary xs = (
  position-le is_blank xs,
  λ h k. let low : get_or xs (position_or_len is_blank xs) 0 < 128 = blank_is_ascii (get_or xs (position_or_len is_blank xs) 0) (passes_at_first is_blank xs 0 h) in
      absurd (omega arith),
)

-- a text may be cut after its first byte, where that is an ASCII character
pub first_boundary : (xs : List ℕ) → IsUtf8 xs → 0 < length xs → get_or xs 0 0 < 128 → IsCharBoundary xs 1
first_boundary xs u h k = IsCharBoundary-after_ascii xs 0 u h k
