use Rattle.conn_state.proofs.LeaveLemmas.{held-dropped}
use Rattle.conn_state.proofs.conn.Conn.linger_turn.Goals as goal

pub invariant_of-self : goal.invariant_of-self
invariant_of-self g c =
    held-dropped _ _ c.args.self.now c.self.inside.plan c.self.inside.unsent _ _ _ c.drop_rest-turn.result c.leaves-self-inside.result c.self.invariant
    c.self.view_is c.requires.lingers c.drop_rest-turn.ensures.drops c.leaves-self-inside.ensures
