use Rattle.std.proofs.Common.{subst}
use Rattle.conn_state.specs.Reader.{SeenReader}
use Rattle.conn_state.specs.Steps.{Steps}
use Rattle.conn_state.proofs.reader.RequestReader.step.Goals as goal

pub invariant_of-self : goal.invariant_of-self
invariant_of-self c =
    let steps = subst (λ s. Steps c.self.inside.limits c.self.inside.unread c.read_on-stage.new.unread s c.read_on-stage.result.0 c.read_on-stage.result.1)
    c.replace-stage.ensures.value (c.read_on-stage.ensures c.self.inside.limits) in
    (c.self.invariant.0, steps.stands c.self.invariant.0 c.self.invariant.1)

pub returns-clause-steps : goal.returns-clause-steps
returns-clause-steps c =
    subst (λ (r : SeenReader). Steps r.limits r.unread c.read_on-stage.new.unread r.stage c.read_on-stage.result.0 c.read_on-stage.result.1) c.self.view_is
    (subst (λ s. Steps c.self.inside.limits c.self.inside.unread c.read_on-stage.new.unread s c.read_on-stage.result.0 c.read_on-stage.result.1)
    c.replace-stage.ensures.value (c.read_on-stage.ensures c.self.inside.limits))
