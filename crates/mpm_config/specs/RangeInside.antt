-- When a line of the table of numbers is well formed.
use Rattle.std.specs.Prelude.{◌*◌, ◌^◌, ◌<◌, ◌≤◌}
use Rattle.mpm_config.specs.declared.range.NumberRange.{NumberRange}

-- a line of the table that is well formed: what 0 is taken as is in the range, and what is kept fits 32 bits
pub record IsWellFormed (r : NumberRange) : Type 0 where
  pub zero : r.zero ≤ r.greatest
  pub fits : r.greatest * r.unit < 2 ^ 32
