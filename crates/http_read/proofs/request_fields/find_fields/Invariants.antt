use Rattle.std.proofs.Common.{take}
use Rattle.std.specs.Prelude.{map}
use Rattle.httparse.specs.Spans.{header_bytes}
use Rattle.http_read.specs.ValuesInside.{AreFound}
use Rattle.http_read.proofs.request_fields.find_fields.Given as goal

abbrev pub invariant-loop-header : goal.invariant-loop-header
invariant-loop-header l = AreFound l.head (map (header_bytes l.head) (take l.header-index l.headers)) l.found
