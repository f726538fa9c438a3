use Rattle.std.proofs.Common.{◌≡◌, map, take}
use Rattle.file_table.specs.declared.site_order.HostOrder.{HostOrder}
use Rattle.file_table.proofs.loading.names_of.Given as goal

abbrev pub invariant-loop-order : goal.invariant-loop-order
invariant-loop-order l = l.names ≡ map (λ (order : HostOrder). order.names) (take l.order-index l.orders)
