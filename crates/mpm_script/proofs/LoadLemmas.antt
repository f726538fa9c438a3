-- The script of a load, line by line.
use Rattle.std.proofs.Common.{◌≡◌, ℕ, zero, suc, ◌+◌, ◌<◌, List, [], ◌∷◌, ◌++◌, map, sym, ap, ◌∙◌, append_assoc, arith}
use Rattle.std.specs.Prelude.{IsUtf8, codes, decimal, slice_index, ◌^◌}
use Rattle.std.specs.List.{AllByRecursion, flat_map, range_with_len, repeat}
use Rattle.std.proofs.lemmas.Grind.{flat_map-append}
use Rattle.std.proofs.lemmas.List.{append-nil}
use Rattle.std.proofs.lemmas.List.Elements.{All-from_recursion}
use Rattle.std.proofs.lemmas.List.FromFn.{map-range_with_len_more}
use Rattle.std.proofs.lemmas.Fmt.{IsAscii-decimal}
use Rattle.std.proofs.lemmas.Str.{IsUtf8-append, IsUtf8-from_ascii}
use Rattle.mpm_script.specs.FileNames.{HasTextName, HaveTextNames}
use Rattle.mpm_script.specs.Load.{load_connection, load_file, load_file_name, load_lines}
use Rattle.mpm_base.specs.declared.script_line.ScriptLine.{ScriptLine}

-- ## One more

-- a text once more
repeat_suc : (n : ℕ) (xs : List ℕ) → repeat (suc n) xs ≡ repeat n xs ++ xs
repeat_suc zero xs = append-nil xs
repeat_suc (suc n) xs = ap (λ ys. xs ++ ys) (repeat_suc n xs) ∙ sym (append_assoc xs (repeat n xs) xs)

pub repeat_more : (n : ℕ) (xs : List ℕ) → repeat (n + 1) xs ≡ repeat n xs ++ xs
repeat_more n xs =
    let up : n + 1 ≡ suc n = omega arith in
    ap (λ k. repeat k xs) up ∙ repeat_suc n xs

-- a further file
pub files_more : (lines : List ScriptLine) (n : ℕ)
    → (lines ++ map load_file (range_with_len 0 n)) ++ load_file n ∷ [] ≡ lines ++ map load_file (range_with_len 0 (n + 1))
files_more lines n =
    append_assoc lines (map load_file (range_with_len 0 n)) (load_file n ∷ [])
    ∙ ap (λ xs. lines ++ xs) (sym (map-range_with_len_more load_file 0 n n (omega arith)))

-- a further number
range_from : (a n : ℕ) → range_with_len a (suc n) ≡ range_with_len a n ++ (a + n) ∷ []
range_from a zero = let same : a ≡ a + 0 = omega arith in ap (λ k. k ∷ []) same
range_from a (suc n) =
    let same : a + 1 + n ≡ a + suc n = omega arith in
    ap (λ xs. a ∷ xs) (range_from (a + 1) n ∙ ap (λ k. range_with_len (a + 1) n ++ k ∷ []) same)

range_more : (n : ℕ) → range_with_len 0 (n + 1) ≡ range_with_len 0 n ++ n ∷ []
range_more n =
    let up : n + 1 ≡ suc n = omega arith in
    let same : 0 + n ≡ n = omega arith in
    ap (λ k. range_with_len 0 k) up ∙ range_from 0 n ∙ ap (λ k. range_with_len 0 n ++ k ∷ []) same

-- a further connection
pub connections_more : (lines : List ScriptLine) (n : ℕ)
    → (lines ++ flat_map load_connection (range_with_len 0 n)) ++ load_connection n ≡ lines ++ flat_map load_connection (range_with_len 0 (n + 1))
connections_more lines n =
    let whole : flat_map load_connection (range_with_len 0 (n + 1)) ≡ flat_map load_connection (range_with_len 0 n) ++ load_connection n =
    ap (flat_map load_connection) (range_more n) ∙ flat_map-append load_connection (range_with_len 0 n) (n ∷ [])
    ∙ ap (λ xs. flat_map load_connection (range_with_len 0 n) ++ xs) (append-nil (load_connection n)) in
    append_assoc lines (flat_map load_connection (range_with_len 0 n)) (load_connection n) ∙ ap (λ xs. lines ++ xs) (sym whole)

-- ## Names

ascii_at : (bs : List ℕ) → AllByRecursion (λ b. b < 128) bs → (i : ℕ) → slice_index bs i < 128
ascii_at [] all i = omega arith
ascii_at (b ∷ bs) all zero = all.0
ascii_at (b ∷ bs) all (suc i) = ascii_at bs all.1 i

connections_named : (numbers : List ℕ) → AllByRecursion HasTextName (flat_map load_connection numbers)
connections_named [] = tt
connections_named (i ∷ numbers) = (tt, (tt, (tt, (tt, (tt, connections_named numbers)))))

-- the name of a file is bytes of ASCII
prefix_ascii : AllByRecursion (λ b. b < 128) (codes "htdocs/f")
prefix_ascii = (omega arith, (omega arith, (omega arith, (omega arith, (omega arith, (omega arith, (omega arith, (omega arith, tt))))))))

suffix_ascii : AllByRecursion (λ b. b < 128) (codes ".txt")
suffix_ascii = (omega arith, (omega arith, (omega arith, (omega arith, tt))))

name_is_text : (j : ℕ) → j < 2 ^ 64 → IsUtf8 (load_file_name j)
name_is_text j fits =
    IsUtf8-append (codes "htdocs/f" ++ decimal j) (codes ".txt")
    (IsUtf8-append (codes "htdocs/f") (decimal j)
    (IsUtf8-from_ascii (codes "htdocs/f") (ascii_at (codes "htdocs/f") prefix_ascii))
    (IsUtf8-from_ascii (decimal j) (IsAscii-decimal j fits)))
    (IsUtf8-from_ascii (codes ".txt") (ascii_at (codes ".txt") suffix_ascii))

files_named : (lines : List ScriptLine) → AllByRecursion HasTextName lines → AllByRecursion HasTextName (map load_file (range_with_len 0 10) ++ lines)
files_named lines rest = (
  name_is_text 0 (omega arith),
  (
    name_is_text 1 (omega arith),
    (
      name_is_text 2 (omega arith),
      (
        name_is_text 3 (omega arith),
        (
          name_is_text 4 (omega arith),
          (
            name_is_text 5 (omega arith),
            (
              name_is_text 6 (omega arith),
              (name_is_text 7 (omega arith), (name_is_text 8 (omega arith), (name_is_text 9 (omega arith), rest))),
            ),
          ),
        ),
      ),
    ),
  ),
)

pub load_named : (n : ℕ) → HaveTextNames (load_lines n)
load_named n =
    All-from_recursion HasTextName (load_lines n)
    (files_named (flat_map load_connection (range_with_len 0 n)) (connections_named (range_with_len 0 n)))
