-- The pairs from the place on stand behind those that were there, the last one first.
use Rattle.std.proofs.Common.{◌≡◌, ◌++◌, drop, map, reverse}
use Rattle.media_types.specs.PairsInside.{pair_sent}
use Rattle.media_types.proofs.type_table.add_added.Given as goal

abbrev pub invariant-loop-place : goal.invariant-loop-place
invariant-loop-place l =
    l.pairs.items ≡ l.fn.pairs.items ++ map (pair_sent l.charset) (reverse (drop l.place l.added))
