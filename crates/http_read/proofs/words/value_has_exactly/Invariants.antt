use Rattle.std.proofs.Common.{◌≡◌, ◌++◌}
use Rattle.http_read.specs.FieldValues.{words_of, has_exactly}
use Rattle.http_read.specs.WordsInside.{words_left, left_len}
use Rattle.http_read.proofs.words.value_has_exactly.Given as goal

abbrev pub invariant-loop-left : goal.invariant-loop-left
invariant-loop-left l = has_exactly (l.front ++ l.back) (words_of l.value) ≡ has_exactly (l.front ++ l.back) (words_left l.left)

abbrev pub decreases-loop-left : goal.decreases-loop-left
decreases-loop-left l = left_len l.left
