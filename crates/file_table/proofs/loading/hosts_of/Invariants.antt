use Rattle.std.proofs.Common.{◌≡◌, map, take}
use Rattle.file_table.specs.Site.{host_of}
use Rattle.file_table.proofs.loading.hosts_of.Given as goal

abbrev pub invariant-loop-order : goal.invariant-loop-order
invariant-loop-order l = l.hosts.items ≡ map (host_of (map (λ root. root.now) l.roots) l.parts) (take l.order-index l.orders)
