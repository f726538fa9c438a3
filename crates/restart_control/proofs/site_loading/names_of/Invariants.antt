use Rattle.std.proofs.Common.{◌≡◌, take}
use Rattle.restart_control.proofs.site_loading.names_of.Given as goal

abbrev pub invariant-loop-name : goal.invariant-loop-name
invariant-loop-name l = l.copy ≡ take l.name-index l.names
