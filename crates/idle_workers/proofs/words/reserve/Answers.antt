use Rattle.std.proofs.Common.{rules, ap, ◌∙◌}
use Rattle.idle_workers.proofs.Answering.{missed, reserved, undone}
use Rattle.table_rule.specs.declared.view.View.{View}
use Rattle.table_rule.specs.Views.{IsAwake}
use Rattle.idle_workers.proofs.words.reserve.Goals as goal

pub fetch_sub-found-requires : goal.fetch_sub-found-requires
fetch_sub-found-requires g c = (c.requires.own, search rules, c.permit_is_tried_for.ensures _ _ _ c.args.child _ c.requires.child c.args.carrier.now.up c.requires.free)

pub fetch_add-requires : goal.fetch_add-requires
fetch_add-requires g c =
    let v = c.args.carrier.now.seat.me.0 in let w = c.fetch_sub-found.new.seat.me.0 in
    let m = missed c.args.child c.fetch_sub-found.result v w c.if-found-gt-BIAS.false c.fetch_sub-found.ensures.2.1 in
    let awake : IsAwake w = ap (λ (u : View). u.who.resting) m ∙ c.args.carrier.now.up in
    (search rules, search rules, c.try_is_undone.ensures _ _ _ c.args.child _ c.requires.child awake (ap (λ (u : View). u.hand.trying) m))

pub returns-then-found-gt-BIAS-clause-reserved : goal.returns-then-found-gt-BIAS-clause-reserved
returns-then-found-gt-BIAS-clause-reserved g c =
    reserved c.args.child c.fetch_sub-found.result c.args.carrier.now.seat.me.0 c.fetch_sub-found.new.seat.me.0 c.if-found-gt-BIAS.true c.fetch_sub-found.ensures.2.1

pub returns-clause-reserved : goal.returns-clause-reserved
returns-clause-reserved g c =
    undone c.args.child c.fetch_sub-found.result c.fetch_add.result c.args.carrier.now.seat.me.0 c.fetch_sub-found.new.seat.me.0 c.fetch_add.new.seat.me.0 c.requires.free
    c.if-found-gt-BIAS.false c.fetch_sub-found.ensures.2.1 c.fetch_add.ensures.2.1
