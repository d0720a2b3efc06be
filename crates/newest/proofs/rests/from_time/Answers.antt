use Rattle.std.proofs.Common.{ltb, rules, arith}
use Rattle.std.proofs.lemmas.List.Sorted.{IsPartitionPoint-from_clause}
use Rattle.newest.proofs.Parts.{late_parted, late_front, rest_slice}
use Rattle.newest.proofs.rests.from_time.Goals as goal

pub returns : goal.returns
returns c =
    let es = c.args.entries.now in
    let point = IsPartitionPoint-from_clause (λ p. ltb c.args.until p.1.draft.created_at) _ _ c.partition_point.ensures.partitioned (late_parted c.args.until es c.requires.sorted) (λ a r q k. search rules) in
    rest_slice c.args.filter.now es c.partition_point.result c.requires.sorted (late_front c.args.filter.now c.args.until es c.partition_point.result c.requires.until (λ k d lt. point.0 k d (omega arith) lt))
