use Rattle.std.proofs.Common.{arith}
use Rattle.mpm_base.proofs.DigitLemmas.{step}
use Rattle.mpm_base.proofs.digits.decimal_value.Goals as goal

pub overflow_mul-n : goal.overflow_mul-n
overflow_mul-n c =
    let s = step c.args.digits.now c.loop-digit.digit-index c.loop-digit.n c.requires.few c.requires.digits c.loop-digit-test.true c.loop-digit.invariant.0 c.loop-digit.invariant.1 in
    omega (arith, s.small)

pub overflow_sub-digit : goal.overflow_sub-digit
overflow_sub-digit c =
    let s = step c.args.digits.now c.loop-digit.digit-index c.loop-digit.n c.requires.few c.requires.digits c.loop-digit-test.true c.loop-digit.invariant.0 c.loop-digit.invariant.1 in
    s.least

pub overflow_add-n : goal.overflow_add-n
overflow_add-n c =
    let s = step c.args.digits.now c.loop-digit.digit-index c.loop-digit.n c.requires.few c.requires.digits c.loop-digit-test.true c.loop-digit.invariant.0 c.loop-digit.invariant.1 in
    omega (arith, s.small, s.greatest, c.from.ensures)

pub loop-digit-preserved : goal.loop-digit-preserved
loop-digit-preserved c =
    let s = step c.args.digits.now c.loop-digit.digit-index c.loop-digit.n c.requires.few c.requires.digits c.loop-digit-test.true c.loop-digit.invariant.0 c.loop-digit.invariant.1 in
    rw c.from.ensures (s.value, s.bound)
