-- Counts that rise and never fall.
use Rattle.std.proofs.Common.{◌≡◌, ◌<◌, ℕ, Bool, true, false, arith}
use Rattle.mpm_base.specs.Count.{NeverFalls, Rises, RisesExactlyWhere, RisesWhere}

-- a count that rose behind one that didn't fall
pub rises-behind : (a b c : ℕ) → NeverFalls a b → Rises b c → Rises a c
rises-behind a b c first second = (omega (arith, first, second.0), λ less. grind (arith, less, first, second.0, second.1))

-- one that rose and didn't fall later
pub rises-before : (a b c : ℕ) → Rises a b → NeverFalls b c → Rises a c
rises-before a b c rises more = (omega (arith, rises.0, more), λ below. let more_than : a < b = rises.1 below in omega (arith, more_than, more))

-- a count that stands at 0 didn't rise
pub never-rises : (a b : ℕ) → Rises a b → b ≡ 0 → ⊥
never-rises a b rises none = grind (arith, rises.0, rises.1, none)

-- a count that rose where a test holds, and in no case fell
pub where-stays : (test : Bool) (a b : ℕ) → RisesWhere test a b → NeverFalls a b
where-stays true a b rises = rises.0
where-stays false a b stays = stays

-- so it is with one that rose exactly where a test holds, and else stayed
pub exactly-stays : (test : Bool) (a b : ℕ) → RisesExactlyWhere test a b → NeverFalls a b
exactly-stays true a b rises = rises.0
exactly-stays false a b stays = omega (arith, stays)
