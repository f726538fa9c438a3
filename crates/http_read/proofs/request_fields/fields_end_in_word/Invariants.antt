use Rattle.std.proofs.Common.{◌≡◌, false, take}
use Rattle.std.specs.Prelude.{map}
use Rattle.httparse.specs.Spans.{header_bytes}
use Rattle.http_read.specs.FieldValues.{values_named, words_of_all}
use Rattle.http_read.specs.WordsInside.{last_word_is}
use Rattle.http_read.proofs.request_fields.fields_end_in_word.Given as goal

abbrev pub invariant-loop-header : goal.invariant-loop-header
invariant-loop-header l = l.is_last ≡ last_word_is l.word false (words_of_all (values_named l.name (map (header_bytes l.head) (take l.header-index l.headers))))
