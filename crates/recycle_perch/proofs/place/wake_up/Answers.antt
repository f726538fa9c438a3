use Rattle.std.proofs.Common.{rules, ap, subst, sym}
use Rattle.recycle_perch.specs.Resting.{IsWokenCarrier}
use Rattle.recycle_perch.proofs.WakeLemmas.{woken_by}
use Rattle.recycle_perch.proofs.place.wake_up.Goals as goal

pub load-requires : goal.load-requires
load-requires g c = (c.requires.own, search rules, c.pass_wakes_up.ensures _ _ _ c.args.number _ (ap (λ me. me.0) c.requires.rests) c.requires.other)

pub returns-clause-woken : goal.returns-clause-woken
returns-clause-woken g c =
    let told = c.load.ensures.2 in
    subst (λ seat. IsWokenCarrier seat.me) (sym c.of.ensures) (woken_by _ told.1.0 _ told.1.1 told.1.2 _ told.1.3 told.1.4 told.1.5 told.1.6)
