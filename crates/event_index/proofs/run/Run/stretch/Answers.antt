use Rattle.std.proofs.Common.{◌≡◌, ◌/◌, List, ℕ, ltb, leb, rules, sym, true, false, subst, ◌∙◌}
use Rattle.std.specs.List.Sorted.{IsNonDecreasing, IsPartitionPoint}
use Rattle.std.proofs.lemmas.List.Sorted.{IsPartitionPoint-from_clause, IsPartitionedBy-ltb, IsPartitionedBy-leb}
use Rattle.event_index.proofs.Lists.{risen, stretch_whole}
use Rattle.event_index.proofs.run.Run.stretch.Goals as goal

pub returns-clause-whole : goal.returns-clause-whole
returns-clause-whole c =
    let xs = c.args.self.now in
    let first : c.deref.result.now ≡ xs = c.deref.ensures.value ∙ c.self.view_is in
    let second : c.deref-2.result.now ≡ xs = c.deref-2.ensures.value ∙ c.self.view_is in
    let up : IsNonDecreasing xs = subst IsNonDecreasing c.self.view_is c.self.invariant in
    let low = IsPartitionPoint-from_clause (λ y. ltb (y / 1048576) c.args.mark) c.deref.result.now c.partition_point-first.result c.partition_point-first.ensures.partitioned
    (IsPartitionedBy-ltb (λ y. y / 1048576) c.deref.result.now c.args.mark (risen c.deref.result.now (subst IsNonDecreasing (sym first) up))) (λ a r q k. search rules) in
    let high = IsPartitionPoint-from_clause (λ y. leb (y / 1048576) c.args.mark) c.deref-2.result.now c.partition_point-behind.result c.partition_point-behind.ensures.partitioned
    (IsPartitionedBy-leb (λ y. y / 1048576) c.deref-2.result.now c.args.mark (risen c.deref-2.result.now (subst IsNonDecreasing (sym second) up))) (λ a r q k. search rules) in
    stretch_whole xs c.args.mark c.partition_point-first.result c.partition_point-behind.result
    (subst (λ (zs : List ℕ). IsPartitionPoint (λ y. ltb (y / 1048576) c.args.mark ≡ true) (λ y. ltb (y / 1048576) c.args.mark ≡ false) zs c.partition_point-first.result) first low)
    (subst (λ (zs : List ℕ). IsPartitionPoint (λ y. leb (y / 1048576) c.args.mark ≡ true) (λ y. leb (y / 1048576) c.args.mark ≡ false) zs c.partition_point-behind.result) second high)
