use Rattle.std.proofs.Common.{◌≡◌, true, [], ◌∷◌, ◌++◌, refl, sym, ap, subst, ◌∙◌}
use Rattle.std.proofs.lemmas.Result.{on_ok_weaker}
use Rattle.httparse.specs.Spans.{header_bytes}
use Rattle.mpm_base.specs.LetterCase.{is_same_ignoring_case}
use Rattle.http_read.specs.FieldValues.{values_named}
use Rattle.http_read.specs.ValuesInside.{AreValuesAt}
use Rattle.http_read.proofs.FieldLemmas.{values_at_more}
use Rattle.http_read.proofs.found_conditions.add_named.Goals as goal

pub returns-then-is_same_ignoring_case : goal.returns-then-is_same_ignoring_case
returns-then-is_same_ignoring_case c =
    let head = c.args.head.now in
    let name = c.args.name.now in
    let spans = c.args.spans.now in
    let span = c.args.header.now.value in
    let field = header_bytes head c.args.header.now in
    let same : is_same_ignoring_case field.0 name ≡ true =
    ap (λ x. is_same_ignoring_case x name) (sym c.of.ensures) ∙ sym c.is_same_ignoring_case.ensures ∙ c.if-is_same_ignoring_case.true in
    on_ok_weaker c.push.result (λ e fields at.
    let is : c.push.new.self ≡ spans ++ span ∷ [] = e in
    subst (AreValuesAt head (values_named name (fields ++ field ∷ []))) (sym is)
    (values_at_more head name fields field spans span same refl c.requires.1 at)) c.push.ensures.ok
