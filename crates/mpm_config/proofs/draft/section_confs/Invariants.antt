use Rattle.std.proofs.Common.{◌≡◌, map, take}
use Rattle.mpm_config.specs.Reading.{host_conf_by}
use Rattle.mpm_config.proofs.draft.section_confs.Given as goal

abbrev pub invariant-loop-host : goal.invariant-loop-host
invariant-loop-host l = l.confs ≡ map (host_conf_by l.root l.index) (take l.host-index l.hosts)
