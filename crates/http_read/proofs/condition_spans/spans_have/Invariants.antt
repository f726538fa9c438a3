-- So far the flag says it of the spans so far.
use Rattle.std.proofs.Common.{◌≡◌, ◌++◌, take}
use Rattle.std.specs.Prelude.{map}
use Rattle.httparse.specs.Spans.{span_bytes}
use Rattle.http_read.specs.FieldValues.{has_exactly, words_of_all}
use Rattle.http_read.proofs.condition_spans.spans_have.Given as goal

abbrev pub invariant-loop-span : goal.invariant-loop-span
invariant-loop-span l = l.found ≡ has_exactly (l.front ++ l.back) (words_of_all (map (span_bytes l.head) (take l.span-index l.spans)))
