-- The number of the digits so far, which are too few for it to be large.
use Rattle.std.proofs.Common.{◌≡◌, ◌<◌, ◌^◌, take}
use Rattle.std.specs.Str.Parse.{digits_value}
use Rattle.mpm_base.proofs.digits.decimal_value.Given as goal

abbrev pub invariant-loop-digit : goal.invariant-loop-digit
invariant-loop-digit l = (l.n ≡ digits_value 10 (take l.digit-index l.digits)) × (l.n < 10 ^ l.digit-index)
