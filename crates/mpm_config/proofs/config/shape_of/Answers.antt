-- The corrected numbers are in the bounds of a shape, and the numbers of a configuration are corrected.
use Rattle.std.proofs.Common.{◌≡◌, ◌≤◌, true, subst, sym}
use Rattle.mpm_config.specs.declared.numbers.Numbers.{Numbers}
use Rattle.mpm_config.specs.Numbers.{IsInRange}
use Rattle.mpm_config.specs.Shape.{shape_of_numbers}
use Rattle.mpm_base.specs.Shape.{is_in_bounds}
use Rattle.mpm_config.specs.Correction.{after_corrections}
use Rattle.mpm_config.proofs.CorrectionLemmas.{corrected_threads, in_bounds}
use Rattle.mpm_config.proofs.config.shape_of.Goals as goal

bounds_of : (written now : Numbers) → IsInRange written → now ≡ after_corrections written → is_in_bounds (shape_of_numbers now) ≡ true
bounds_of written now h e = subst (λ n. is_in_bounds (shape_of_numbers n) ≡ true) (sym e) (in_bounds written h)

threads_of : (written now : Numbers) → IsInRange written → now ≡ after_corrections written → 1 ≤ now.threads
threads_of written now h e = subst (λ (n : Numbers). 1 ≤ n.threads) (sym e) (corrected_threads written h).0

pub shape_by-requires : goal.shape_by-requires
shape_by-requires c = threads_of c.config.inside.written c.config.inside.now c.config.invariant.in_range c.config.invariant.fixed

pub returns-clause-bounds : goal.returns-clause-bounds
returns-clause-bounds c =
    subst (λ s. is_in_bounds s ≡ true) (sym c.shape_by.ensures) (bounds_of c.config.inside.written c.config.inside.now c.config.invariant.in_range c.config.invariant.fixed)
