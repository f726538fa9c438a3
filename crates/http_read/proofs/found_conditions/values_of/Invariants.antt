-- The values of the fields so far stand at the spans so far.
use Rattle.std.proofs.Common.{take}
use Rattle.std.specs.Prelude.{map}
use Rattle.httparse.specs.Spans.{header_bytes}
use Rattle.http_read.specs.FieldValues.{values_named}
use Rattle.http_read.specs.ValuesInside.{AreValuesAt}
use Rattle.http_read.proofs.found_conditions.values_of.Given as goal

abbrev pub invariant-loop-header : goal.invariant-loop-header
invariant-loop-header l = AreValuesAt l.head (values_named l.name (map (header_bytes l.head) (take l.header-index l.headers))) l.spans
