-- What is left from the place on, behind what stands before it, is what is left of the whole.
use Rattle.std.proofs.Common.{◌≡◌}
use Rattle.name_hosts.specs.Host.{host_part}
use Rattle.name_hosts.proofs.HostLemmas.{left_from}
use Rattle.name_hosts.proofs.host_part.Given as goal

abbrev pub invariant-loop-place : goal.invariant-loop-place
invariant-loop-place l = host_part l.value ≡ left_from l.value l.place
