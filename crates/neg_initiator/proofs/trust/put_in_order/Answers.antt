use Rattle.std.proofs.lemmas.List.Filters.{dedup_is}
use Rattle.std.proofs.lemmas.List.Kept.{Any-dedup, Contains-from_dedup, IsStrictlySortedBy-dedup}
use Rattle.std.proofs.lemmas.List.Sorted.{Contains-permutation, IsPermutation-sym}
use Rattle.neg_initiator.proofs.Noting.{sorted_distinct}
use Rattle.neg_initiator.proofs.trust.put_in_order.Goals as goal

pub returns-clause-kept : goal.returns-clause-kept
returns-clause-kept g c = λ x h.
    let is = dedup_is _ _ _ c.dedup.ensures.filtered in
    rw is (Any-dedup g.met.T.Eq.laws _ x (Contains-permutation _ _ x c.sort_unstable.ensures.permutation h))

pub returns-clause-from : goal.returns-clause-from
returns-clause-from g c = λ x h.
    let is = dedup_is _ _ _ c.dedup.ensures.filtered in
    Contains-permutation _ _ x (IsPermutation-sym _ _ c.sort_unstable.ensures.permutation) (Contains-from_dedup _ _ x (rw is at h))

pub returns-clause-once : goal.returns-clause-once
returns-clause-once g c =
    let is = dedup_is _ _ _ c.dedup.ensures.filtered in
    rw is (sorted_distinct g.met.T.Ord.total _ (IsStrictlySortedBy-dedup g.met.T.Ord.total g.met.T.Ord.matches_eq _ c.sort_unstable.ensures.sorted))
