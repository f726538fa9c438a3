use Rattle.std.proofs.Common.{◌≡◌, ◌≢◌, rules, sym, subst}
use Rattle.table_rule.specs.declared.view.View.{View}
use Rattle.table_rule.specs.Views.{IsAwake, IsIdle}
use Rattle.recycle_perch.proofs.place.lay_down.Goals as goal

pub load-requires : goal.load-requires
load-requires g c =
    let free = c.requires.free in
    let same : c.into_seat-seat.result.me.0 ≡ c.args.carrier.seat.me.0 = search rules in
    let awake : IsAwake c.into_seat-seat.result.me.0 = subst IsAwake (sym same) c.args.carrier.up in
    let idle : IsIdle c.into_seat-seat.result.me.0 = subst IsIdle (sym same) free.free.idle in
    let other = subst (λ (v : View). v.who.number ≢ 0) (sym same) free.number in
    (search rules, search rules, c.pass_lies_down.ensures _ _ _ _ awake idle other)
