use Rattle.http_core.proofs.HostLemmas.{served_for}
use Rattle.http_core.proofs.laws.served_files_are_of_the_chosen_host.Goals as goal

pub returns : goal.returns
returns c = served_for c.hosts_have_their_files.ensures
