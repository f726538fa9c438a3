use Rattle.std.proofs.Common.{◌∙◌}
use Rattle.listener_parts.proofs.RoundLemmas.{signalled_all, signalled_alone, signalled_credits, signalled_some}
use Rattle.listener_parts.proofs.time.signal.Goals as goal

pub returns-clause-signals : goal.returns-clause-signals
returns-clause-signals g c =
    signalled_all c.signal_all.result c.args.slots.now c.args.pass.now.seat.me.0 c.signal_all.new.pass.seat.me.0 c.signal_all.ensures.all (c.signal_all.ensures.row ∙ c.requires.none)

pub returns-clause-some : goal.returns-clause-some
returns-clause-some g c =
    signalled_some c.signal_all.result c.args.slots.now c.args.pass.now.seat.me.0 c.signal_all.new.pass.seat.me.0 c.signal_all.ensures.first (c.signal_all.ensures.row ∙ c.requires.none)

pub returns-clause-no_row : goal.returns-clause-no_row
returns-clause-no_row g c = c.signal_all.ensures.row ∙ c.requires.none

pub returns-clause-credits : goal.returns-clause-credits
returns-clause-credits g c = signalled_credits c.signal_all.result c.args.slots.now c.args.pass.now.seat.me.0 c.signal_all.new.pass.seat.me.0 c.signal_all.ensures.all c.signal_all.ensures.first

pub returns-clause-rest : goal.returns-clause-rest
returns-clause-rest g c =
    signalled_alone c.others_leave_the_rest_to_the_listener.ensures c.turns_rest_on_these.ensures c.signal_all.result c.args.slots.now c.args.pass.now.seat.me.0 c.signal_all.new.pass.seat.me.0 c.requires.listener.number
    c.signal_all.ensures.all c.signal_all.ensures.first
