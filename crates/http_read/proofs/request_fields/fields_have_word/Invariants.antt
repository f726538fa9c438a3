use Rattle.std.proofs.Common.{◌≡◌, take}
use Rattle.std.specs.Prelude.{map}
use Rattle.httparse.specs.Spans.{header_bytes}
use Rattle.http_read.specs.FieldValues.{values_named, words_of_all, has_word}
use Rattle.http_read.proofs.request_fields.fields_have_word.Given as goal

abbrev pub invariant-loop-header : goal.invariant-loop-header
invariant-loop-header l = l.found ≡ has_word l.word (words_of_all (values_named l.name (map (header_bytes l.head) (take l.header-index l.headers))))
