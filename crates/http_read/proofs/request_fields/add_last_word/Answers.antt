use Rattle.std.proofs.Common.{◌≡◌, true, sym, ap, ◌∙◌}
use Rattle.httparse.specs.Spans.{header_bytes}
use Rattle.mpm_base.specs.LetterCase.{is_same_ignoring_case}
use Rattle.http_read.specs.FieldValues.{words_of}
use Rattle.http_read.specs.WordsInside.{last_word_is}
use Rattle.http_read.proofs.FieldLemmas.{last_word_more}
use Rattle.http_read.proofs.request_fields.add_last_word.Goals as goal

pub returns-then-is_same_ignoring_case : goal.returns-then-is_same_ignoring_case
returns-then-is_same_ignoring_case c fields is =
    let field = header_bytes c.args.head.now c.args.header.now in
    let same : is_same_ignoring_case field.0 c.args.name.now ≡ true =
    ap (λ x. is_same_ignoring_case x c.args.name.now) (sym c.of.ensures) ∙ sym c.is_same_ignoring_case.ensures ∙ c.if-is_same_ignoring_case.true in
    c.value_ends_in_word.ensures
    ∙ ap (λ x. last_word_is c.args.word.now c.args.is_last (words_of x)) c.of-then-is_same_ignoring_case.ensures
    ∙ last_word_more c.args.name.now c.args.word.now fields field c.args.is_last same is
