-- The lines of a text as they are cut at the first line feed, and logical lines as they are joined from the front.
use Rattle.std.proofs.Common.{◌≡◌, ℕ, ◌+◌, ◌<◌, ◌≤◌, ◌==◌, nat_lt, if◌then◌else◌, Bool, true, false, List, [], ◌∷◌, Some, None, length, refl, ap, subst, sym, ◌∙◌, arith, add-zero}
use Rattle.std.specs.List.{before_first, after_first, position_or_len, slice_split}
use Rattle.std.specs.Str.Lines.{lines, lines_of_parts, strip_carriage_return}
use Rattle.std.proofs.lemmas.List.Sums.{fails_before_first}
use Rattle.std.proofs.lemmas.List.Splits.{slice_split_first, slice_split_none, length-slice_split}
use Rattle.std.proofs.lemmas.Bool.Decides.{nat_tests}
use Rattle.conf_text.specs.Parts.{parts_around, Parts}
use Rattle.conf_text.specs.Line.{Line, continues, front, join_next, logical}

-- a line feed
abbrev pub feed : ℕ → Bool
feed b = b == 10

-- a part before others is a line, but for a carriage return at its end
before_others : (x : List ℕ) (parts : List (List ℕ)) → 0 < length parts → lines_of_parts (x ∷ parts) ≡ strip_carriage_return x ∷ lines_of_parts parts
before_others x [] h = absurd (omega arith)
before_others x (y ∷ ys) h = refl

pub lines_first : (xs : List ℕ) → position_or_len feed xs < length xs → lines xs ≡ strip_carriage_return (before_first feed xs) ∷ lines (after_first feed xs)
lines_first xs h =
    let split : slice_split feed xs ≡ before_first feed xs ∷ slice_split feed (after_first feed xs) = slice_split_first feed xs 0 h in
    let more : 0 < length (slice_split feed (after_first feed xs)) = omega (arith, length-slice_split feed (after_first feed xs)) in
    ap lines_of_parts split ∙ before_others (before_first feed xs) (slice_split feed (after_first feed xs)) more

-- a text without a line feed is one line
one_line : (xs : List ℕ) → 0 < length xs → lines_of_parts (xs ∷ []) ≡ xs ∷ []
one_line [] h = absurd (omega arith)
one_line (x ∷ xs) h = let some : (length (x ∷ xs) == 0) ≡ false = grind (arith, nat_tests) in rw some refl

pub lines_last : (xs : List ℕ) → 0 < length xs → length xs ≤ position_or_len feed xs → lines xs ≡ xs ∷ []
lines_last xs h k =
    ap lines_of_parts (slice_split_none feed xs (λ j d l. fails_before_first feed xs j d (omega arith))) ∙ one_line xs h

-- what a cut says of its test
test_some : (t : Bool) (p q : Parts) → Some p ≡ (if t then Some q else None) → (t ≡ true) × (q ≡ p)
test_some true p q e = (refl, cc)
test_some false p q e = absurd (cc)

test_none : (t : Bool) (q : Parts) → None ≡ (if t then Some q else None) → t ≡ false
test_none true q e = absurd (cc)
test_none false q e = refl

pub cut_some : (xs : List ℕ) (p : Parts) → Some p ≡ parts_around 10 xs → lines xs ≡ strip_carriage_return p.before ∷ lines p.after
cut_some xs p e =
    let t = test_some (nat_lt (position_or_len feed xs) (length xs)) p (record { before = before_first feed xs; after = after_first feed xs }) e in
    let test : nat_lt (position_or_len feed xs) (length xs) ≡ true = t.0 in
    let h : position_or_len feed xs < length xs = grind (arith, nat_tests) in
    subst (λ (q : Parts). lines xs ≡ strip_carriage_return q.before ∷ lines q.after) t.1 (lines_first xs h)

pub cut_none : (xs : List ℕ) → 0 < length xs → None ≡ parts_around 10 xs → lines xs ≡ xs ∷ []
cut_none xs h e =
    let test : nat_lt (position_or_len feed xs) (length xs) ≡ false = test_none _ _ e in
    let k : length xs ≤ position_or_len feed xs = grind (arith, nat_tests) in
    lines_last xs h k

-- a text that isn't empty has a line
pub lines_some : (xs : List ℕ) → 0 < length xs → (p : List ℕ) × (ps : List (List ℕ)) × (lines xs ≡ p ∷ ps)
lines_some xs h = some_of (nat_lt (position_or_len feed xs) (length xs)) refl
  where
    some_of : (t : Bool) → nat_lt (position_or_len feed xs) (length xs) ≡ t → (p : List ℕ) × (ps : List (List ℕ)) × (lines xs ≡ p ∷ ps)
    some_of true e = let k : position_or_len feed xs < length xs = grind (arith, nat_tests) in (_, _, lines_first xs k)
    some_of false e = let k : length xs ≤ position_or_len feed xs = grind (arith, nat_tests) in (_, _, lines_last xs h k)

-- nothing joined with the first logical line leaves it as it is
nothing_joined : (t : Bool) (n : ℕ) (p : List ℕ) (ls : List Line)
    → join_next n [] (if t then join_next n (front p) ls else record { number = n; bytes = p } ∷ ls) ≡ (if t then join_next n (front p) ls else record { number = n; bytes = p } ∷ ls)
nothing_joined true n p [] = refl
nothing_joined true n p (l ∷ ls) = refl
nothing_joined false n p ls = refl

begins_of : (n : ℕ) (ps : List (List ℕ)) (qs : List (List ℕ)) (q : List ℕ) → ps ≡ q ∷ qs → logical n ps ≡ join_next n [] (logical n ps)
begins_of n ps qs q e = rw e (sym (nothing_joined (continues q) n q (logical (n + 1) qs)))

pub begins : (n : ℕ) (xs : List ℕ) → 0 < length xs → logical n (lines xs) ≡ join_next n [] (logical (n + 0) (lines xs))
begins n xs h =
    let some = lines_some xs h in
    rw add-zero (begins_of n (lines xs) some.1 some.0 some.2)
