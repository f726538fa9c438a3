use Rattle.std.proofs.Common.{refl, ◌∙◌}
use Rattle.worker_threads.proofs.ServingLemmas.{all_of_it, goes_further, nothing_yet}
use Rattle.worker_threads.proofs.service.converse.Goals as goal

pub loop-init : goal.loop-init
loop-init g c =
    record {
      own = refl;
      hand = c.requires.hand;
      so_far = nothing_yet c.args.carrier.now.seat.me.0 c.args.conn.now;
      serves = c.requires.served;
    }

pub returns-in-Some-converse_once-clause-conversed : goal.returns-in-Some-converse_once-clause-conversed
returns-in-Some-converse_once-clause-conversed g c = all_of_it _ _ _ c.args.conn.now c.loop.conn c.converse_once.new.conn c.loop.invariant.so_far c.converse_once.ensures.conversed

pub loop-preserved : goal.loop-preserved
loop-preserved g c =
    record {
      own = c.converse_once.ensures.own ∙ c.loop.invariant.own;
      hand = c.converse_once.ensures.hand;
      so_far = goes_further _ _ _ c.args.conn.now c.loop.conn c.converse_once.new.conn c.loop.invariant.so_far c.converse_once.ensures.conversed;
      serves = c.in_default.ensures.served;
    }
