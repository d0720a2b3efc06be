use Rattle.std.proofs.Common.{not, rules, arith}
use Rattle.std.proofs.lemmas.List.Sorted.{IsPartitionPoint-from_clause}
use Rattle.newest.specs.Newest.{rank, comes_before}
use Rattle.newest.proofs.Ranks.{place_parted, front_of, behind_of}
use Rattle.newest.proofs.run.place_for.Goals as goal

pub returns : goal.returns
returns c =
    let r = rank c.args.new.now in
    let es = c.args.entries.now in
    let at = c.partition_point.result in
    let point = IsPartitionPoint-from_clause (λ p. not (comes_before r (rank p))) _ _ c.partition_point.ensures.partitioned (place_parted r es c.requires) (λ a b q k. search rules) in
    record {
      within = c.partition_point.ensures.bound;
      front = front_of r es at (λ k d lt. point.0 k d (omega arith) lt);
      behind = behind_of r es at point.1;
    }
