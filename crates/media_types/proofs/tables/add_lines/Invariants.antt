-- The lines so far stand behind the pairs that were there.
use Rattle.std.proofs.Common.{◌≡◌, ◌++◌, map, take}
use Rattle.media_types.specs.PairsInside.{pair_sent}
use Rattle.media_types.specs.TablesInside.{pair_of}
use Rattle.media_types.proofs.tables.add_lines.Given as goal

abbrev pub invariant-loop-line : goal.invariant-loop-line
invariant-loop-line l =
    l.pairs.items ≡ l.fn.pairs.items ++ map (pair_sent l.charset) (map pair_of (take l.line-index l.lines))
