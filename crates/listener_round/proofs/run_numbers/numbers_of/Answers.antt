-- The limit of servers isn't corrected, so it is in its range.
use Rattle.std.proofs.Common.{◌≡◌, ◌≤◌, sym, subst, arith}
use Rattle.mpm_config.specs.declared.directive.Quantity.TheVariants.{ServerLimit}
use Rattle.mpm_config.specs.declared.numbers.Numbers.{Numbers}
use Rattle.mpm_config.specs.Correction.{after_corrections}
use Rattle.mpm_config.specs.Numbers.{IsInRange}
use Rattle.listener_round.proofs.run_numbers.numbers_of.Goals as goal

servers : (written current : Numbers) → IsInRange written → current ≡ after_corrections written → (1 ≤ current.server_limit) × (current.server_limit ≤ 32)
servers written current in_range fixed =
    let limit = in_range ServerLimit in (
      subst (λ (n : Numbers). 1 ≤ n.server_limit) (sym fixed) limit.least,
      subst (λ (n : Numbers). n.server_limit ≤ 32) (sym fixed) limit.greatest,
    )

pub returns-clause-allowed : goal.returns-clause-allowed
returns-clause-allowed c =
    let limit = servers c.config.inside.written c.config.inside.now c.config.invariant.in_range c.config.invariant.fixed in
    record {
      some_slots = omega arith;
      few_slots = omega arith;
      some_children = limit.0;
      few_children = limit.1;
      some_serve = omega arith;
      few_passes = omega arith;
      in_bounds = c.shape_of.ensures.bounds;
    }
