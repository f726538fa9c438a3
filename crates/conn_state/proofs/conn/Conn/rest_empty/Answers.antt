use Rattle.std.proofs.Common.{sym, subst, ◌∙◌}
use Rattle.conn_state.specs.Reader.{StandsFor}
use Rattle.conn_state.specs.Conn.{SeenConn}
use Rattle.conn_state.proofs.conn.Conn.rest_empty.Goals as goal

pub returns-clause-rest : goal.returns-clause-rest
returns-clause-rest g c rest h =
    c.is_empty.ensures ∙ c.kept_bytes_show_empty_rests.ensures c.self.inside.reader.limits c.self.inside.reader.unread c.self.inside.reader.stage rest
    (subst (λ (x : SeenConn). StandsFor x.reader rest) (sym c.self.view_is) h)
