use Rattle.std.proofs.Common.{◌≡◌, ◌*◌, rules, ap, sym, subst}
use Rattle.table_rule.specs.Ledgers.{MayGiveBack}
use Rattle.table_rule.specs.Views.{IsAwake}
use Rattle.table_rule.specs.declared.view.View.{View}
use Rattle.board_lock.proofs.shared.Shared.done.Goals as goal

pub store-requires : goal.store-requires
store-requires g c =
    let same : c.exchange.new.seat.me.0 ≡ c.args.pass.now.seat.me.0 = search rules in
    let back = subst (λ (v : View). MayGiveBack v (g.K.Kept.ledger c.args.turn.kept)) (sym same) c.requires.left in
    let awake : IsAwake c.exchange.new.seat.me.0 =
    subst IsAwake (sym same) c.args.pass.now.up in
    (search rules, search rules, c.turn_is_given_back.ensures _ _ _ _ _ c.args.turn.kept (search rules) awake back (ap (λ n. 2 * n) c.length-length.ensures.is))
