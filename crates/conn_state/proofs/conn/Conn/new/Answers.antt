use Rattle.std.proofs.Common.{refl, rules}
use Rattle.conn_state.proofs.FreshLemmas.{held-new}
use Rattle.conn_state.proofs.conn.Conn.new.Goals as goal

pub invariant_of-result : goal.invariant_of-result
invariant_of-result g c =
    held-new _ _ c.of.result refl (search rules) (search rules) c.new.ensures.stands c.new.ensures.in_head c.requires.fresh refl refl (search rules) c.requires.client
