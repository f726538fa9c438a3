-- The logical lines of a text: its lines, those that end with a backslash joined with the next ones.
use Rattle.std.specs.Prelude.{ℕ, ◌+◌, ◌-◌, ◌≤◌, ◌==◌, if◌then◌else◌, Bool, List, [], ◌∷◌, ◌++◌, length, take, slice_index}
use Rattle.std.specs.Str.Lines.{lines}

-- a logical line, and the number, from 1, of the first line that it is joined of
pub record Line : Type 0 where
  pub number : ℕ
  pub bytes : List ℕ

-- the last byte is a backslash (92)
abbrev pub continues : List ℕ → Bool
continues piece = slice_index piece (length piece - 1) == 92

-- the piece without its last byte
abbrev pub front : List ℕ → List ℕ
front piece = take (length piece - 1) piece

-- a piece joined with the line after it, if there is one
abbrev pub join_next : ℕ → List ℕ → List Line → List Line
join_next n piece [] = record { number = n; bytes = piece } ∷ []
join_next n piece (l ∷ ls) = record { number = n; bytes = piece ++ l.bytes } ∷ ls

-- the lines from one on: it is joined with the next where it continues
abbrev pub with_piece : ℕ → List ℕ → List Line → List Line
with_piece n piece ls = if continues piece then join_next n (front piece) ls else record { number = n; bytes = piece } ∷ ls

-- the logical lines of some lines, of which the first has that number
abbrev pub logical : ℕ → List (List ℕ) → List Line
logical n [] = []
logical n (p ∷ ps) = with_piece n p (logical (n + 1) ps)

-- the logical lines of a text
abbrev pub logical_lines : List ℕ → List Line
logical_lines text = logical 1 (lines text)

-- the numbers of lines rise, from one on
abbrev pub Rise : ℕ → List Line → Type 0
Rise n [] = Unit {0}
Rise n (l ∷ ls) = (n ≤ l.number) × Rise (l.number + 1) ls
