-- The pairs so far, and those of the words that are left, are all of them.
use Rattle.std.proofs.Common.{◌≡◌, ◌++◌, length}
use denote.Text.{Utf8}
use denote.Shadow.{shadow}
use Rattle.conf_text.specs.Words.{words}
use Rattle.type_words.specs.TypeWords.{pairs_with}
use Rattle.type_words.proofs.pairs.add_pairs_with.Given as goal

abbrev pub invariant-loop-word : goal.invariant-loop-word
invariant-loop-word l =
    shadow (Utf8 l.rest)
    × (l.pairs ++ pairs_with l.media (words l.rest) ≡ l.fn.pairs ++ pairs_with l.media (words l.line))

abbrev pub decreases-loop-word : goal.decreases-loop-word
decreases-loop-word l = length (words l.rest)
