-- The words that are left are extensions where all are.
use Rattle.std.proofs.Common.{◌≡◌, length}
use denote.Text.{Utf8}
use denote.Shadow.{shadow}
use Rattle.conf_text.specs.Words.{words}
use Rattle.type_words.specs.TypeWords.{are_extensions}
use Rattle.type_words.proofs.pairs.are_extensions.Given as goal

abbrev pub invariant-loop-word : goal.invariant-loop-word
invariant-loop-word l = shadow (Utf8 l.rest) × (are_extensions (words l.rest) ≡ are_extensions (words l.line))

abbrev pub decreases-loop-word : goal.decreases-loop-word
decreases-loop-word l = length (words l.rest)
