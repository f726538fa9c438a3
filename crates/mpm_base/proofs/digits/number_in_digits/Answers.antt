use Rattle.std.proofs.Common.{arith, ◌∙◌, sym}
use Rattle.mpm_base.proofs.DigitLemmas.{number_parts, small_number}
use Rattle.mpm_base.proofs.digits.number_in_digits.Goals as goal

pub decimal_value-requires-clause-few : goal.decimal_value-requires-clause-few
decimal_value-requires-clause-few c =
    let parts = number_parts c.args.most c.args.text.now (sym c.is_number.ensures ∙ c.if-is_number.true) in
    omega (arith, parts.few, c.requires.few)

pub decimal_value-requires-clause-digits : goal.decimal_value-requires-clause-digits
decimal_value-requires-clause-digits c = (number_parts c.args.most c.args.text.now (sym c.is_number.ensures ∙ c.if-is_number.true)).digits

pub returns-then-is_number-clause-bound : goal.returns-then-is_number-clause-bound
returns-then-is_number-clause-bound c =
    let parts = number_parts c.args.most c.args.text.now (sym c.is_number.ensures ∙ c.if-is_number.true) in
    small_number c.args.most c.decimal_value.result c.args.text.now parts.few c.decimal_value.ensures.bound
