use Rattle.std.proofs.Common.{◌<◌}
use Rattle.timeout_queues.specs.RingsInside.{IsFirstOf}
use Rattle.timeout_queues.proofs.Queues.first.Given as goal

abbrev pub invariant-loop-number : goal.invariant-loop-number
invariant-loop-number l = IsFirstOf l.self (λ n. n < l.number) l.first
