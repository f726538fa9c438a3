use Rattle.std.proofs.Common.{false, drop, refl, sym, ap, subst, ◌∙◌}
use Rattle.conn_state.specs.declared.stage.Stage.TheVariants as stage
use Rattle.conn_state.specs.declared.steps.StepAnswer.TheVariants as step
use Rattle.conn_state.specs.Steps.{Steps}
use Rattle.conn_state.proofs.StepLemmas.{head-accepted, head-goes_on, head-no_memory, head-refuses}
use Rattle.conn_state.proofs.steps.read_head.Goals as goal

pub returns-in-Whole : goal.returns-in-Whole
returns-in-Whole c limits =
    subst (λ xs. Steps limits xs c.skip.new.self (stage.Head c.args.reader) c.begin_body.result.0 c.begin_body.result.1) c.as_slice.ensures
    (head-accepted limits c.as_slice.result.now c.skip.new.self c.args.reader c.in-Whole.request c.in-Whole.len c.begin_body.result.0 c.begin_body.result.1
    c.in-Whole.ensures.head (c.skip.ensures ∙ ap (drop c.in-Whole.len) (sym c.as_slice.ensures)) c.begin_body.ensures)

pub returns-in-More : goal.returns-in-More
returns-in-More c limits =
    subst (λ xs. Steps limits xs xs (stage.Head c.args.reader) (stage.Head c.read.new.self) step.Wants) c.as_slice.ensures
    (head-goes_on limits c.as_slice.result.now c.args.reader c.read.new.self c.in-More.ensures.head (c.in-More.ensures.all refl) c.in-More.ensures.limits c.in-More.ensures.within c.in-More.ensures.looked)

pub returns-in-Refused : goal.returns-in-Refused
returns-in-Refused c limits =
    subst (λ xs. Steps limits xs xs (stage.Head c.args.reader) (stage.Refused c.in-Refused.code false) step.Refused) c.as_slice.ensures
    (head-refuses limits c.as_slice.result.now c.args.reader c.in-Refused.code c.in-Refused.ensures.head)

pub returns-in-NoMemory : goal.returns-in-NoMemory
returns-in-NoMemory c limits =
    subst (λ xs. Steps limits xs xs (stage.Head c.args.reader) (stage.Head c.read.new.self) step.NoMemory) c.as_slice.ensures
    (head-no_memory limits c.as_slice.result.now c.args.reader c.read.new.self c.in-NoMemory.ensures.limits c.in-NoMemory.ensures.within c.in-NoMemory.ensures.looked)
