use Rattle.std.proofs.Common.{◌≡◌, ◌++◌, take}
use Rattle.std.specs.List.{flat_map}
use Rattle.http_core.specs.Location.{query_byte}
use Rattle.http_core.proofs.location.add_query.Given as goal

abbrev pub invariant-loop-byte : goal.invariant-loop-byte
invariant-loop-byte l = l.location ≡ l.fn.location ++ flat_map query_byte (take l.byte-index l.query)
