use Rattle.std.proofs.Common.{◌≡◌, arith}
use Rattle.timeout_queues.proofs.FirstLemmas.{first_more, first_least}
use Rattle.timeout_queues.proofs.Queues.first.Goals as goal

pub loop-number-preserved : goal.loop-number-preserved
loop-number-preserved c =
    first_more c.args.self.now c.loop-number.number c.loop-number.first c.first_in.result c.earlier-first.result c.loop-number.invariant c.first_in.ensures
    c.earlier-first.ensures.former c.earlier-first.ensures.other c.earlier-first.ensures.either

pub returns-clause-least : goal.returns-clause-least
returns-clause-least c =
    let all : c.loop-number.number ≡ 5 = omega arith in
    first_least c.args.self.now c.loop-number.first (rw all at c.loop-number.invariant)
