use Rattle.std.proofs.Common.{ℕ, List, ap, subst, ◌∙◌}
use Rattle.mpm_base.specs.Front.{Answers}
use Rattle.command_answers.specs.Answers.{status_answer}
use Rattle.listener_round.proofs.listener_state.Listener.tell_state.Goals as goal

pub returns-clause-answers : goal.returns-clause-answers
returns-clause-answers g c =
    subst (Answers (g.F.Front.seen c.args.front.now) (g.F.Front.seen c.answer.new.self))
    (c.as_slice.ensures.is ∙ c.status_answer.ensures ∙ ap status_answer c.totals-totals.ensures) c.answer.ensures.answers
