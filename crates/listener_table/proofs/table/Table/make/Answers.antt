use Rattle.std.proofs.Common.{sym}
use Rattle.listener_table.proofs.TableLemmas.{no_credits}
use Rattle.listener_table.proofs.table.Table.make.Goals as goal

pub invariant_of-result : goal.invariant_of-result
invariant_of-result g c = (
  c.requires.own,
  record {
    listener = c.requires.listener;
    none = c.requires.none;
    credited = no_credits c.none.result c.args.pass.seat.me.0 c.none.ensures.none c.none.ensures.full c.requires.credits c.requires.full;
    opened = c.requires.opened;
    sound = c.requires.sound;
    dropped = c.requires.dropped;
    moment_is = sym c.requires.moment;
    newest_is = sym c.requires.newest;
    going_is = sym c.requires.going;
  },
)
