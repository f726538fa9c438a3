use Rattle.std.proofs.Common.{◌<◌, ◌^◌, length, rules, arith}
use Rattle.lock_examples.proofs.EntryLemmas.{counts_fit}
use Rattle.lock_examples.proofs.toy.Toy.step.Goals as goal

pub put-requires-clause-round : goal.put-requires-clause-round
put-requires-clause-round c =
    let short : length c.self.inside.entries.items < 2 ^ 63 = search rules in
    (counts_fit c.self.inside.steps c.self.inside.round c.self.inside.entries.items c.self.invariant.1 c.self.invariant.3 short).1

pub round_behind-self-inside-requires : goal.round_behind-self-inside-requires
round_behind-self-inside-requires c =
    let short : length c.self.inside.entries.items < 2 ^ 63 = search rules in
    (counts_fit c.self.inside.steps c.self.inside.round c.self.inside.entries.items c.self.invariant.1 c.self.invariant.3 short).1

pub overflow_add-self : goal.overflow_add-self
overflow_add-self c =
    let short : length c.self.inside.entries.items < 2 ^ 63 = search rules in
    let fit = counts_fit c.self.inside.steps c.self.inside.round c.self.inside.entries.items c.self.invariant.1 c.self.invariant.3 short in
    omega (arith, fit.0)
