use Rattle.std.proofs.Common.{rules}
use Rattle.std.proofs.lemmas.List.Sorted.{IsNonDecreasingBy-from_sort_by}
use Rattle.item_key.specs.Keys.{place}
use Rattle.item_roll.proofs.sorting.in_order.Goals as goal

pub returns-clause-rises : goal.returns-clause-rises
returns-clause-rises c = IsNonDecreasingBy-from_sort_by place _ c.sort_unstable_by.ensures.sorted (λ a r q k. search rules)
