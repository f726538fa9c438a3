use Rattle.std.proofs.Common.{◌≡◌, ap, refl, sym, ◌∙◌, arith}
use Rattle.mpm_base.specs.Count.{next_count}
use Rattle.stand_ins.specs.Calls.{is_listed}
use Rattle.script_front.specs.FailingFront.{fails, unlisted}
use Rattle.script_front.proofs.failing_front.FailingFrontFront.wait.Goals as goal

pub returns-then-has-clause-plays : goal.returns-then-has-clause-plays
returns-then-has-clause-plays g c =
    let s = c.self.inside in
    let made : c.saturating_add-self-inside.result ≡ next_count s.made_waits = omega arith in
    let failed : c.saturating_add-self-inside-then-has.result ≡ next_count s.failed_waits = omega arith in
    let listed = ap (is_listed s.bad_waits) (sym made) ∙ sym c.has.ensures ∙ c.if-has.true in
    rw (← c.self.view_is, c.fail_wait.ensures.failed, c.fail_wait.ensures.none) (fails listed (rw (c.fail_wait.ensures.told, made, failed) refl))

pub returns-clause-plays : goal.returns-clause-plays
returns-clause-plays g c =
    let s = c.self.inside in
    let made : c.saturating_add-self-inside.result ≡ next_count s.made_waits = omega arith in
    let listed = ap (is_listed s.bad_waits) (sym made) ∙ sym c.has.ensures ∙ c.if-has.false in
    rw (← c.self.view_is) (unlisted listed c.wait.ensures.plays (rw made refl))
