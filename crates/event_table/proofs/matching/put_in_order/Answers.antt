use Rattle.std.proofs.Common.{sym, ◌∙◌}
use Rattle.std.proofs.lemmas.List.Filters.{dedup_is}
use Rattle.std.proofs.lemmas.Cmp.{nat_cmp_total}
use Rattle.std.specs.Cmp.{unsigned_tied}
use Rattle.std.specs.FinSet.{nat_cmp-IsAntisymmetric}
use Rattle.nostr_filter.proofs.Orders.{sorted_once}
use Rattle.event_table.proofs.matching.put_in_order.Goals as goal

pub returns : goal.returns
returns c =
    dedup_is _ _ _ c.dedup.ensures.filtered
    ∙ sorted_once nat_cmp_total nat_cmp-IsAntisymmetric (λ x y. sym (unsigned_tied x y)) _ _ c.sort_unstable.ensures.permutation c.sort_unstable.ensures.sorted
