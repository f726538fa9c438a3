use Rattle.std.proofs.Common.{arith}
use Rattle.crossbeam_queue.specs.Passes.{IsPassOf}
use Rattle.listener_hands.proofs.LineLemmas.{pairs_more}
use Rattle.listener_hands.proofs.lines.add_queue.Goals as goal

pub returns-clause-own : goal.returns-clause-own
returns-clause-own g c =
    pairs_more (λ q s. IsPassOf q.ring s) c.args.queues.now.items c.push_reserved.new.self.items c.args.seats.now.items c.push_reserved-2.new.self.items
    c.args.queue c.args.seat c.push_reserved.ensures.items c.push_reserved-2.ensures.items
    (omega (arith, c.requires.long, c.args.queues.now.ok.0, c.args.seats.now.ok.0)) c.requires.own c.requires.mine
