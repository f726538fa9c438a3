use Rattle.std.proofs.Common.{◌==◌, not, length, sym, ap, ◌∙◌}
use Rattle.conn_state.specs.Conn.{SeenConn}
use Rattle.conn_state.proofs.OutgoingLemmas.{pending-length}
use Rattle.conn_state.proofs.conn.Conn.pending.Goals as goal

pub returns : goal.returns
returns g c =
    ap not (c.is_empty.ensures ∙ sym (ap (λ n. n == 0) (pending-length _ c.self.inside.unsent c.self.invariant.unsent))
    ∙ ap (λ (x : SeenConn). length x.pending == 0) c.self.view_is)
