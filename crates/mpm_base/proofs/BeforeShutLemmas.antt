-- What a read leaves of the bytes before the half-close.
use Rattle.std.proofs.Common.{◌≡◌, ◌<◌, ◌++◌, Bool, true, false, take, refl, ap, arith}
use Rattle.std.proofs.lemmas.Bool.Decides.{nat_tests}
use Rattle.mpm_base.specs.Link.{LinkTold, after_read, after_shut}
use Rattle.mpm_base.specs.declared.link.Got.{Got}
use Rattle.mpm_base.specs.declared.link.Got.TheVariants as got

pub grows_while_open : (answer : Got) (told : LinkTold) → told.shuts ≡ 0 → told.before_shut ≡ told.received
    → (after_read answer told).before_shut ≡ (after_read answer told).received
grows_while_open (got.Got n) told open_link same = rw open_link (ap (λ xs. xs ++ take n told.coming) same)
grows_while_open got.End told open_link same = same
grows_while_open got.NotReady told open_link same = same
grows_while_open got.Failed told open_link same = same

pub stays_once_shut : (answer : Got) (told : LinkTold) → 0 < told.shuts → (after_read answer told).before_shut ≡ told.before_shut
stays_once_shut (got.Got n) told half_closed = grind (arith, nat_tests)
stays_once_shut got.End told half_closed = refl
stays_once_shut got.NotReady told half_closed = refl
stays_once_shut got.Failed told half_closed = refl

pub same_after_shut : (answer : Bool) (told : LinkTold) → (after_shut answer told).before_shut ≡ told.before_shut
same_after_shut true told = refl
same_after_shut false told = refl
