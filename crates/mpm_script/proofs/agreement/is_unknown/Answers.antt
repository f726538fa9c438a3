use Rattle.std.proofs.Common.{ap}
use Rattle.std.specs.Prelude.{not}
use Rattle.mpm_script.proofs.AgreementLemmas.{has_conn_named}
use Rattle.mpm_script.proofs.agreement.is_unknown.Goals as goal

pub returns-in-Client : goal.returns-in-Client
returns-in-Client c =
    λ before names. rw (c.in-Client.is, c.has_name.ensures, c.as_slice.ensures, names) (ap not (has_conn_named c.in-Client.name before))
