use Rattle.conn_state.proofs.LeaveLemmas.{held-shut}
use Rattle.conn_state.proofs.conn.Conn.shut.Goals as goal

pub invariant_of-self : goal.invariant_of-self
invariant_of-self g c =
    held-shut _ _ c.args.self.now c.self.inside.plan c.self.inside.unsent _ _ c.shut-half_closed.result c.after_half_close-self-inside.result c.self.invariant c.self.view_is
    c.requires.not_shut c.shut-half_closed.ensures.told_is c.shut-half_closed.ensures.only_faults c.after_half_close-self-inside.ensures
