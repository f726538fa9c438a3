use Rattle.mpm_script.proofs.AgreementLemmas.{has_conn_named}
use Rattle.mpm_script.proofs.agreement.is_repeated.Goals as goal

pub returns-in-Conn : goal.returns-in-Conn
returns-in-Conn c =
    λ before names. rw (c.in-Conn.is, c.has_name.ensures, c.as_slice.ensures, names) (has_conn_named c.in-Conn.name before)
