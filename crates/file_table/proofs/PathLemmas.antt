-- The segments of a path, and the names that they spell.
use Rattle.std.proofs.Common.{◌≡◌, ℕ, ◌+◌, ◌-◌, ◌<◌, ◌≤◌, get_or, take, drop, Bool, true, false, cond, List, [], ◌∷◌, ◌++◌, length, refl, sym, ap, ◌∙◌, arith, append_assoc}
use Rattle.std.specs.List.{filter, list_all, slice_split, onto_first, join_with_byte}
use Rattle.std.proofs.lemmas.List.{append-nil, length-append, nil_from_length, take_all, take_more}
use Rattle.std.proofs.lemmas.List.Elements.{filter-append}
use Rattle.std.proofs.lemmas.List.Splits.{join_with_byte-slice_split}
use Rattle.std.proofs.lemmas.Bool.Decides.{nat_tests}
use Rattle.file_table.specs.Path.{is_filled, is_slash, name_of_segments, segments}
use Rattle.file_table.specs.PathInside.{further_name}

onto_front : (x : ℕ) (parts more : List (List ℕ)) → 0 < length parts → onto_first x (parts ++ more) ≡ onto_first x parts ++ more
onto_front x [] more h = absurd (omega (arith, h))
onto_front x (part ∷ parts) more h = refl

some_part : (xs : List ℕ) → 0 < length (slice_split is_slash xs)
some_part [] = omega arith
some_part (x ∷ xs) = by_test (is_slash x) where
  onto_some : (parts : List (List ℕ)) → 0 < length (onto_first x parts)
  onto_some [] = omega arith
  onto_some (part ∷ parts) = omega arith

  by_test : (t : Bool) → 0 < length (cond t ([] ∷ slice_split is_slash xs) (onto_first x (slice_split is_slash xs)))
  by_test true = omega arith
  by_test false = onto_some (slice_split is_slash xs)

-- a slash at the end adds an empty part
split_end : (xs : List ℕ) → slice_split is_slash (xs ++ 47 ∷ []) ≡ slice_split is_slash xs ++ [] ∷ []
split_end [] = refl
split_end (x ∷ xs) = rw (split_end xs) (by_test (is_slash x)) where
  by_test : (t : Bool) → cond t ([] ∷ (slice_split is_slash xs ++ [] ∷ [])) (onto_first x (slice_split is_slash xs ++ [] ∷ []))
      ≡ cond t ([] ∷ slice_split is_slash xs) (onto_first x (slice_split is_slash xs)) ++ [] ∷ []
  by_test true = refl
  by_test false = onto_front x (slice_split is_slash xs) ([] ∷ []) (some_part xs)

-- slashes at the front and at the end of a path part no segments
pub segments_behind : (xs : List ℕ) → segments (47 ∷ xs) ≡ segments xs
segments_behind xs = refl

pub segments_before : (xs : List ℕ) → segments (xs ++ 47 ∷ []) ≡ segments xs
segments_before xs =
    ap (filter is_filled) (split_end xs) ∙ filter-append is_filled (slice_split is_slash xs) ([] ∷ []) ∙ append-nil _

filter_each : (parts : List (List ℕ)) → list_all is_filled parts ≡ true → filter is_filled parts ≡ parts
filter_each [] h = refl
filter_each (part ∷ parts) h = grind (arith, filter_each parts)

-- each segment is filled
pub all_segments : (parts : List (List ℕ)) → list_all is_filled (filter is_filled parts) ≡ true
all_segments [] = refl
all_segments (part ∷ parts) = grind (arith, all_segments parts)

-- where no part is empty, the parts spell the text
pub plain_segments : (xs : List ℕ) → list_all is_filled (slice_split is_slash xs) ≡ true → xs ≡ name_of_segments (segments xs)
plain_segments xs h = sym (ap (join_with_byte 47) (filter_each (slice_split is_slash xs) h) ∙ join_with_byte-slice_split 47 xs)

pub no_segments : (xs : List ℕ) → length xs ≡ 0 → xs ≡ name_of_segments (segments xs)
no_segments xs h = rw (nil_from_length xs h) refl

some_name : (part : List ℕ) (parts : List (List ℕ)) → is_filled part ≡ true → 0 < length (name_of_segments (part ∷ parts))
some_name part [] h = grind (arith, nat_tests)
some_name part (next ∷ parts) h = omega (arith, length-append part (47 ∷ name_of_segments (next ∷ parts)))

further_some : (name segment : List ℕ) → 0 < length name → name ++ 47 ∷ segment ≡ further_name name segment
further_some name segment h = grind (arith, nat_tests)

-- segments and a further one spell the name with the further one
pub further_segment : (parts : List (List ℕ)) (segment : List ℕ) → list_all is_filled parts ≡ true
    → name_of_segments (parts ++ segment ∷ []) ≡ further_name (name_of_segments parts) segment
further_segment [] segment h = refl
further_segment (part ∷ []) segment h =
    let filled : is_filled part ≡ true = grind (arith, nat_tests) in
    further_some part segment (some_name part [] filled)
further_segment (part ∷ next ∷ parts) segment h =
    let filled : is_filled part ≡ true = grind (arith, nat_tests) in
    let others : list_all is_filled (next ∷ parts) ≡ true = grind (arith, nat_tests) in
    let first : is_filled next ≡ true = grind (arith, nat_tests) in
    let name = name_of_segments (next ∷ parts) in
    ap (λ rest. part ++ 47 ∷ rest) (further_segment (next ∷ parts) segment others ∙ sym (further_some name segment (some_name next parts first)))
    ∙ sym (append_assoc part (47 ∷ name) (47 ∷ segment))
    ∙ further_some (part ++ 47 ∷ name) segment (some_name part (next ∷ parts) filled)

last_apart : (rest : List ℕ) → 1 ≤ length rest → get_or rest (length rest - 1) 0 ≡ 47 → rest ≡ take (length rest - 1) rest ++ 47 ∷ []
last_apart rest some last =
    let within : length rest - 1 < length rest = omega arith in
    let whole : take (length rest - 1 + 1) rest ≡ rest = take_all (length rest - 1 + 1) rest (omega arith) in
    sym whole ∙ take_more rest (length rest - 1) 0 within ∙ ap (λ b. take (length rest - 1) rest ++ b ∷ []) last

-- what stands between slashes at both ends has the same segments
pub segments_between : (path rest : List ℕ) → 1 ≤ length path → get_or path 0 0 ≡ 47 → rest ≡ take (length path - 1) (drop 1 path)
    → 1 ≤ length rest → get_or rest (length rest - 1) 0 ≡ 47 → segments (take (length rest - 1) rest) ≡ segments path
segments_between [] rest some first e filled last = absurd (omega (arith, some))
segments_between (p ∷ ps) rest some first e filled last =
    let is_rest : rest ≡ ps = e ∙ take_all (length (p ∷ ps) - 1) ps (omega arith) in
    sym (segments_before (take (length rest - 1) rest)) ∙ ap segments (sym (last_apart rest filled last)) ∙ ap segments is_rest
    ∙ ap (λ b. segments (b ∷ ps)) (sym first)
