use Rattle.std.proofs.Common.{refl, sym}
use Rattle.timeout_queues.specs.Waiting.{all_parked}
use Rattle.timeout_queues.proofs.LeastLemmas.{none_late_at, some_late}
use Rattle.timeout_queues.proofs.Queues.overdue.Goals as goal

pub returns-in-Some-clause-none : goal.returns-in-Some-clause-none
returns-in-Some-clause-none c =
    (λ no. absurd (cc), λ none. absurd (some_late _ (all_parked c.args.self.now) _ (sym c.in-Some.ensures.least) c.if-first-now.true none))

pub returns-in_default-clause-none : goal.returns-in_default-clause-none
returns-in_default-clause-none c =
    (λ _. none_late_at _ (all_parked c.args.self.now) _ (sym c.in-Some.ensures.least) c.if-first-now.false, λ _. refl)

pub returns-in_default-2-clause-none : goal.returns-in_default-2-clause-none
returns-in_default-2-clause-none c =
    (λ _. none_late_at _ (all_parked c.args.self.now) _ (sym c.in_default.ensures.least) tt, λ _. refl)
