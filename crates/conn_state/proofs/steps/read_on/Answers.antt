use Rattle.std.proofs.Common.{sym, subst}
use Rattle.conn_state.specs.Steps.{Steps}
use Rattle.conn_state.proofs.steps.read_on.Goals as goal

pub returns-in-Head : goal.returns-in-Head
returns-in-Head c limits =
    subst (λ s. Steps limits c.args.unread.now c.read_head.new.unread s c.read_head.result.0 c.read_head.result.1) (sym c.in-Head.is) (c.read_head.ensures limits)

pub returns-in-Body : goal.returns-in-Body
returns-in-Body c limits =
    subst (λ s. Steps limits c.args.unread.now c.read_body.new.unread s c.read_body.result.0 c.read_body.result.1) (sym c.in-Body.is) (c.read_body.ensures limits)
