-- None of the names so far is that of the host.
use Rattle.std.proofs.Common.{◌≡◌, false, take}
use Rattle.name_hosts.specs.Host.{has_name}
use Rattle.name_hosts.proofs.host_names.HostNames.has.Given as goal

abbrev pub invariant-loop-place : goal.invariant-loop-place
invariant-loop-place l = has_name l.host (take l.place l.self) ≡ false
