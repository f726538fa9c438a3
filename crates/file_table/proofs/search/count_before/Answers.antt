use Rattle.std.proofs.Common.{◌++◌, rules, tests}
use Rattle.std.proofs.lemmas.List.Sorted.{IsPartitionPoint-from_clause}
use Rattle.file_table.specs.Order.{name_goes_before}
use Rattle.file_table.proofs.OrderLemmas.{partitioned}
use Rattle.file_table.proofs.search.count_before.Goals as goal

pub returns : goal.returns
returns g c = λ in_order.
    IsPartitionPoint-from_clause (λ x. name_goes_before (g.T.Named.name_of x) (c.args.front.now ++ c.args.back.now)) c.args.items.now _ c.partition_point.ensures.partitioned
    (partitioned g.T.Named.name_of c.args.items.now in_order (c.args.front.now ++ c.args.back.now)) (λ a r q k. search (rules, tests))
