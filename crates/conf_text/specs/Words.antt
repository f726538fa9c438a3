-- The words of a line.
use Rattle.std.specs.Prelude.{ℕ, ◌==◌, ◌||◌, if◌then◌else◌, Bool, List, [], ◌∷◌}

-- a space or a tab
abbrev pub is_blank : ℕ → Bool
is_blank b = b == 32 || b == 9

-- a word; or a quote that no other closes, with what follows it
pub data Word : Type 0 where
  Closed : List ℕ → Word
  Unclosed : Word

-- the first word has a further byte at its front
abbrev pub with_first_byte : ℕ → List Word → List Word
with_first_byte b [] = []
with_first_byte b (Closed w ∷ ws) = Closed (b ∷ w) ∷ ws
with_first_byte b (Unclosed ∷ ws) = Unclosed ∷ ws

abbrev mutual
  -- the words of a line: blanks stand between them, and a quote (34) at the front of one goes with it to the next quote
  pub words : List ℕ → List Word
  words [] = []
  words (b ∷ bs) = if is_blank b then words bs else (if b == 34 then in_quotes bs else with_first_byte b (in_word bs))

  -- the words from within a word without quotes
  pub in_word : List ℕ → List Word
  in_word [] = Closed [] ∷ []
  in_word (b ∷ bs) = if is_blank b then Closed [] ∷ words bs else with_first_byte b (in_word bs)

  -- the words from within a word in quotes
  pub in_quotes : List ℕ → List Word
  in_quotes [] = Unclosed ∷ []
  in_quotes (b ∷ bs) = if b == 34 then Closed [] ∷ words bs else with_first_byte b (in_quotes bs)

-- the bytes from the first on that is no blank
abbrev pub from_blanks : List ℕ → List ℕ
from_blanks [] = []
from_blanks (b ∷ bs) = if is_blank b then from_blanks bs else b ∷ bs
