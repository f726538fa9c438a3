use Rattle.std.proofs.Common.{false, ap, ◌∙◌}
use Rattle.std.specs.Prelude.{map}
use Rattle.std.proofs.lemmas.List.{take_all}
use Rattle.httparse.specs.Spans.{header_bytes}
use Rattle.http_read.specs.FieldValues.{values_named, words_of_all}
use Rattle.http_read.specs.WordsInside.{last_word_is}
use Rattle.http_read.proofs.FieldLemmas.{last_word_of_all}
use Rattle.http_read.proofs.request_fields.fields_end_in_word.Goals as goal

pub returns : goal.returns
returns c =
    c.loop-header.invariant
    ∙ ap (λ hs. last_word_is c.args.word.now false (words_of_all (values_named c.args.name.now (map (header_bytes c.args.head.now) hs))))
    (take_all c.loop-header.header-index c.args.headers.now c.loop-header-test.false)
    ∙ last_word_of_all c.args.word.now (words_of_all (values_named c.args.name.now (map (header_bytes c.args.head.now) c.args.headers.now))) c.requires.some
