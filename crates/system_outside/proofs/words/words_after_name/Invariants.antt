-- The words so far, and those that are left, are all behind the name.
use Rattle.std.proofs.Common.{◌≡◌, ◌++◌, map}
use Rattle.std.specs.String.{string_bytes}
use Rattle.std.specs.Vec.Iter.{into_iter_items, into_iter_len}
use Rattle.system_outside.proofs.words.words_after_name.Given as goal

abbrev pub decreases-loop-word : goal.decreases-loop-word
decreases-loop-word l = into_iter_len l.rest

abbrev pub invariant-loop-word : goal.invariant-loop-word
invariant-loop-word l =
    map string_bytes (into_iter_items l.initial.rest) ≡ l.words ++ map string_bytes (into_iter_items l.rest)
