use Rattle.std.proofs.Common.{◌≡◌, take}
use Rattle.media_types.proofs.types.copy_of_pairs.Given as goal

abbrev pub invariant-loop-pair : goal.invariant-loop-pair
invariant-loop-pair l = l.copy ≡ take l.pair-index l.pairs
