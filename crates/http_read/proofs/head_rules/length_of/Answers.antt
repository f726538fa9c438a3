use Rattle.std.proofs.Common.{◌≡◌, get_or, sym, ◌∙◌, arith}
use Rattle.std.specs.Char.{is_ascii_digit, digit_value}
use Rattle.std.proofs.lemmas.Bool.{and_from}
use Rattle.std.proofs.lemmas.Bool.Decides.{nat_tests}
use Rattle.std.proofs.lemmas.List.Folds.{list_all_more}
use Rattle.std.proofs.lemmas.Int.Digits.{digits_value_more}
use Rattle.http_read.proofs.head_rules.length_of.Goals as goal

pub loop-b-preserved : goal.loop-b-preserved
loop-b-preserved c =
    let digit : digit_value (get_or c.args.value.now c.loop-b.b-index 0) ≡ c.from.result = grind (arith, nat_tests) in
    record {
      digits =
          list_all_more is_ascii_digit c.args.value.now c.loop-b.b-index 0 c.loop-b-test.true
          ∙ and_from _ _ c.loop-b.invariant.digits (sym c.if-not-is_ascii_digit.ensures.value);
      number = omega (arith, digits_value_more 10 c.args.value.now c.loop-b.b-index c.loop-b-test.true, c.min-number.ensures, c.loop-b.invariant.number);
    }
