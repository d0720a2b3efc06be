use Rattle.std.proofs.Common.{ltb, arith, rules}
use Rattle.std.proofs.lemmas.Bool.{ltb-true, ltb-false}
use Rattle.std.proofs.lemmas.List.Sorted.{IsPartitionPoint-from_clause, IsPartitionedBy-ltb}
use Rattle.item_key.specs.Keys.{place}
use Rattle.item_roll.proofs.Places.{rises, count_at}
use Rattle.item_roll.proofs.chunk.items_below.Goals as goal

pub returns-clause-value : goal.returns-clause-value
returns-clause-value c =
    let parted = IsPartitionedBy-ltb place c.args.items.now (place c.args.edge.now) (rises c.args.items.now c.requires) in
    let point = IsPartitionPoint-from_clause (λ y. ltb (place y) (place c.args.edge.now)) _ _ c.partition_point.ensures.partitioned parted (λ a r q k. search rules) in
    count_at c.args.items.now c.args.edge.now c.partition_point.result c.requires c.partition_point.ensures.bound
    (λ k d lt in_list. ltb-true _ _ (point.0 k d (omega arith) lt))
    (λ k d le lt. ltb-false _ _ (point.1 k d le lt))
