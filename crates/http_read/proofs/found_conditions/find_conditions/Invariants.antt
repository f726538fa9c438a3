use Rattle.std.proofs.Common.{take}
use Rattle.std.specs.Prelude.{map}
use Rattle.httparse.specs.Spans.{header_bytes}
use Rattle.http_read.specs.ValuesInside.{AreConditionsFound}
use Rattle.http_read.proofs.found_conditions.find_conditions.Given as goal

abbrev pub invariant-loop-header : goal.invariant-loop-header
invariant-loop-header l = AreConditionsFound l.head (map (header_bytes l.head) (take l.header-index l.headers)) l.found
