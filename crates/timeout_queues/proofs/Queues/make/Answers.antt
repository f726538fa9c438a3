use Rattle.std.proofs.Common.{arith}
use Rattle.timeout_queues.specs.RingsInside.{by_kind}
use Rattle.timeout_queues.proofs.KeptLemmas.{seen_empty}
use Rattle.timeout_queues.proofs.PlaceLemmas.{rings_empty}
use Rattle.timeout_queues.proofs.Queues.make.Goals as goal

pub invariant_of-result : goal.invariant_of-result
invariant_of-result c =
    rw (seen_empty c.args.slots c.loop.counter c.loop.kept.items c.loop.invariant.empty (omega arith))
    (rings_empty by_kind c.args.slots c.in_ok-make.field-0.before.items c.in_ok-make.field-0.behind.items c.requires.few
    c.in_ok-make.ensures.before c.in_ok-make.ensures.behind)

pub returns : goal.returns
returns c = seen_empty c.args.slots c.loop.counter c.loop.kept.items c.loop.invariant.empty (omega arith)
