-- The mark of a name, by which most names are told apart without a look at their bytes. Names that are the same but for the case of letters
-- have one mark.
use Rattle.std.specs.Prelude.{◌≡◌, ℕ, ◌+◌, ◌*◌, ◌%◌, List, fold, map, take}
use Rattle.std.specs.Char.{to_ascii_lowercase}

-- a mark is below this
abbrev pub marks_below : ℕ
marks_below = 16777213

-- the mark with one more byte
abbrev pub mark_with : ℕ → ℕ → ℕ
mark_with m b = (m * 31 + b) % marks_below

-- so many bytes of a name make its mark, so that a long one costs no more
abbrev pub most_marked : ℕ
most_marked = 64

-- the mark of some bytes, whose letters count in lower case
abbrev pub mark_of_bytes : List ℕ → ℕ
mark_of_bytes bytes = fold (λ m b. mark_with m (to_ascii_lowercase b)) 0 bytes

-- the mark of a name
abbrev pub mark : List ℕ → ℕ
mark name = mark_of_bytes (take most_marked name)

-- the marks are those of the names, in order
abbrev pub AreMarks : List (List ℕ) → List ℕ → Type 0
AreMarks names marks = marks ≡ map mark names
