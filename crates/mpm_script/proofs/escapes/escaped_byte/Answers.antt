use Rattle.std.proofs.Common.{[], ◌∷◌, ◌∙◌, ap, sym}
use Rattle.mpm_script.specs.Escapes.{letter}
use Rattle.mpm_script.proofs.EscapeLemmas.{escape_of_digits, digits_of_escape}
use Rattle.mpm_script.proofs.OptionLemmas.{some_from_match, none_from_match}
use Rattle.mpm_script.proofs.escapes.escaped_byte.Goals as goal

pub returns-then-letter-eq120-clause-some : goal.returns-then-letter-eq120-clause-some
returns-then-letter-eq120-clause-some c =
    let text = c.in_ok-letter.ensures.cases.0 ∙ ap (λ b. b ∷ c.in_ok-letter.rest.now) c.if-letter-eq120.true in
    some_from_match c.hex_byte.result _ _ _ (λ first h. escape_of_digits _ _ text _ _ h) c.hex_byte.ensures.some

pub returns-then-letter-eq120-clause-none : goal.returns-then-letter-eq120-clause-none
returns-then-letter-eq120-clause-none c =
    let text = c.in_ok-letter.ensures.cases.0 ∙ ap (λ b. b ∷ c.in_ok-letter.rest.now) c.if-letter-eq120.true in
    none_from_match c.hex_byte.result _ _ _ (λ none b rest h. none b rest (digits_of_escape _ _ text b rest h)) c.hex_byte.ensures.none

pub returns-clause-some : goal.returns-clause-some
returns-clause-some c = (
  c.in_ok-letter.letter.now ∷ [],
  letter (sym c.letter_value.ensures ∙ c.in_ok-byte.was),
  c.in_ok-letter.ensures.cases.0,
)
