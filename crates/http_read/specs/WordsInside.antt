-- How the words of a value are gone through.
use Rattle.std.specs.Prelude.{◌≡◌, ℕ, ◌<◌, ◌+◌, ◌==◌, Bool, List, [], ◌∷◌, length, Option, Some, None}
use Rattle.std.specs.List.{slice_split}
use Rattle.std.specs.Borrow.{Bor}
use Rattle.mpm_base.specs.LetterCase.{is_same_ignoring_case}
use Rattle.http_read.specs.FieldValues.{words_of}

-- the parts of bytes that are cut at commas
abbrev pub parts_of : List ℕ → List (List ℕ)
parts_of bytes = slice_split (λ b. b == 44) bytes

-- the part up to the first comma, and the bytes behind it where there is one
abbrev pub IsSplitAt : List ℕ → List ℕ → Option (Bor (List ℕ)) → Type 0
IsSplitAt bytes part (Some behind) = (parts_of bytes ≡ part ∷ parts_of behind.now) × (length behind.now < length bytes)
IsSplitAt bytes part None = parts_of bytes ≡ part ∷ []

-- whether the last of the words is this one, where the flag says it of the words before them
abbrev pub last_word_is : List ℕ → Bool → List (List ℕ) → Bool
last_word_is word before [] = before
last_word_is word before (found ∷ words) = last_word_is word (is_same_ignoring_case found word) words

-- the words of the bytes that are left
abbrev pub words_left : Option (Bor (List ℕ)) → List (List ℕ)
words_left (Some bytes) = words_of bytes.now
words_left None = []

-- how much is left
abbrev pub left_len : Option (Bor (List ℕ)) → ℕ
left_len (Some bytes) = length bytes.now + 1
left_len None = 0
