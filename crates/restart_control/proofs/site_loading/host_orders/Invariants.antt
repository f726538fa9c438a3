use Rattle.std.proofs.Common.{◌≡◌, map, take}
use Rattle.restart_control.specs.Reload.{host_order}
use Rattle.restart_control.proofs.site_loading.host_orders.Given as goal

abbrev pub invariant-loop-conf : goal.invariant-loop-conf
invariant-loop-conf l = l.orders ≡ map host_order (take l.conf-index l.confs)
