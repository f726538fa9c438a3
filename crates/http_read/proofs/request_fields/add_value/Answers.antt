use Rattle.std.proofs.Common.{◌≡◌, true, sym, ap, ◌∙◌, subst}
use Rattle.httparse.specs.Spans.{header_bytes}
use Rattle.mpm_base.specs.LetterCase.{is_same_ignoring_case}
use Rattle.http_read.specs.FieldValues.{values_named}
use Rattle.http_read.specs.ValuesInside.{AreValues}
use Rattle.http_read.proofs.FieldLemmas.{values_more}
use Rattle.http_read.proofs.request_fields.add_value.Goals as goal

pub returns-then-is_same_ignoring_case : goal.returns-then-is_same_ignoring_case
returns-then-is_same_ignoring_case c fields are =
    let field = header_bytes c.args.head.now c.args.header.now in
    let same : is_same_ignoring_case field.0 c.args.name.now ≡ true =
    ap (λ x. is_same_ignoring_case x c.args.name.now) (sym c.of.ensures) ∙ sym c.is_same_ignoring_case.ensures ∙ c.if-is_same_ignoring_case.true in
    subst (λ vs. AreValues c.args.head.now vs c.one_more.result) (sym (values_more c.args.name.now fields field same))
    (c.one_more.ensures c.args.head.now (values_named c.args.name.now fields) are c.requires.1)
