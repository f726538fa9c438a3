-- The spaces that are skipped change nothing behind them.
use Rattle.std.proofs.Common.{◌≡◌, length}
use Rattle.type_words.specs.TypeWords.{without_spaces}
use Rattle.type_words.proofs.media_type.without_spaces.Given as goal

abbrev pub invariant-loop-rest : goal.invariant-loop-rest
invariant-loop-rest l = without_spaces l.rest ≡ without_spaces l.text

abbrev pub decreases-loop-rest : goal.decreases-loop-rest
decreases-loop-rest l = length l.rest
