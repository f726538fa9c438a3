-- What the reader of words answers.
use Rattle.std.specs.Prelude.{◌≡◌, List, [], ◌∷◌}
use Rattle.conf_text.specs.declared.word.First.{First}
use Rattle.conf_text.specs.declared.word.First.TheVariants as first
use Rattle.conf_text.specs.Words.{Word, Closed, Unclosed, words}

-- the first of some words of a line, and the rest of the line, of which the others are
abbrev pub Shows : List Word → First → Type 0
Shows ws first.End = ws ≡ []
Shows ws first.Unclosed = ws ≡ Unclosed ∷ []
Shows ws (first.Closed word rest) = ws ≡ Closed word.now ∷ words rest.now
