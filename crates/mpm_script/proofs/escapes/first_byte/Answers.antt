use Rattle.std.proofs.Common.{[], ◌∷◌, ◌∙◌, ap, sym}
use Rattle.mpm_script.specs.Escapes.{plain}
use Rattle.mpm_script.proofs.EscapeLemmas.{byte_of_escape, escape_of_byte}
use Rattle.mpm_script.proofs.OptionLemmas.{some_from_match, none_from_match}
use Rattle.mpm_script.proofs.escapes.first_byte.Goals as goal

pub returns-then-first-eq92-clause-some : goal.returns-then-first-eq92-clause-some
returns-then-first-eq92-clause-some c =
    let text = c.in_ok-first.ensures.cases.0 ∙ ap (λ b. b ∷ c.in_ok-first.rest.now) c.if-first-eq92.true in
    some_from_match c.escaped_byte.result _ _ _ (λ first h. byte_of_escape _ _ text _ _ h) c.escaped_byte.ensures.some

pub returns-then-first-eq92-clause-none : goal.returns-then-first-eq92-clause-none
returns-then-first-eq92-clause-none c =
    let text = c.in_ok-first.ensures.cases.0 ∙ ap (λ b. b ∷ c.in_ok-first.rest.now) c.if-first-eq92.true in
    none_from_match c.escaped_byte.result _ _ _ (λ none b rest h. none b rest (escape_of_byte _ _ text b rest h)) c.escaped_byte.ensures.none

pub returns-then-is_plain-clause-some : goal.returns-then-is_plain-clause-some
returns-then-is_plain-clause-some c = (
  c.in_ok-first.first.now ∷ [],
  plain (sym c.is_plain.ensures ∙ c.if-is_plain.true),
  c.in_ok-first.ensures.cases.0,
)
