use Rattle.std.proofs.Common.{drop, sym, ap, subst, ◌∙◌}
use Rattle.conn_state.specs.declared.stage.Stage.TheVariants as stage
use Rattle.conn_state.specs.declared.steps.StepAnswer.TheVariants as step
use Rattle.conn_state.specs.Steps.{Steps}
use Rattle.conn_state.proofs.StepLemmas.{body-takes, body-ends, body-refuses}
use Rattle.conn_state.proofs.steps.read_body.Goals as goal

pub returns-in-Took : goal.returns-in-Took
returns-in-Took c limits =
    subst (λ xs. Steps limits xs c.skip.new.self (stage.Body c.args.request c.args.reader) (stage.Body c.args.request c.feed.new.self) step.Wants) c.as_slice.ensures
    (body-takes limits c.as_slice.result.now c.skip.new.self c.args.request c.args.reader c.feed.new.self c.in-Took.count c.in-Took.ensures.counts c.in-Took.ensures.body
    (c.skip.ensures ∙ ap (drop c.in-Took.count) (sym c.as_slice.ensures)))

pub returns-in-Done : goal.returns-in-Done
returns-in-Done c limits =
    subst (λ xs. Steps limits xs c.skip-in-Done.new.self (stage.Body c.args.request c.args.reader) (stage.Whole c.args.request) step.Whole) c.as_slice.ensures
    (body-ends limits c.as_slice.result.now c.skip-in-Done.new.self c.args.request c.args.reader c.feed.new.self c.in-Done.end c.in-Done.ensures.counts c.in-Done.ensures.body
    (c.skip-in-Done.ensures ∙ ap (drop c.in-Done.end) (sym c.as_slice.ensures)))

pub returns-in-Bad : goal.returns-in-Bad
returns-in-Bad c limits =
    subst (λ xs. Steps limits xs xs (stage.Body c.args.request c.args.reader) (stage.Refused c.in-Bad.code c.expects-expected.result) step.Refused) c.as_slice.ensures
    (subst (λ b. Steps limits c.as_slice.result.now c.as_slice.result.now (stage.Body c.args.request c.args.reader) (stage.Refused c.in-Bad.code b) step.Refused) (sym c.expects-expected.ensures)
    (body-refuses limits c.as_slice.result.now c.args.request c.args.reader c.feed.new.self c.in-Bad.code c.in-Bad.ensures.body))
