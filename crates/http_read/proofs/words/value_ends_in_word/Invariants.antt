use Rattle.std.proofs.Common.{◌≡◌}
use Rattle.http_read.specs.FieldValues.{words_of}
use Rattle.http_read.specs.WordsInside.{words_left, left_len, last_word_is}
use Rattle.http_read.proofs.words.value_ends_in_word.Given as goal

abbrev pub invariant-loop-left : goal.invariant-loop-left
invariant-loop-left l = last_word_is l.word l.fn.before (words_of l.value) ≡ last_word_is l.word l.is_last (words_left l.left)

abbrev pub decreases-loop-left : goal.decreases-loop-left
decreases-loop-left l = left_len l.left
