use Rattle.std.proofs.Common.{◌∙◌}
use Rattle.std.proofs.lemmas.List.Filters.{dedup_is}
use Rattle.nostr_filter.proofs.Orders.{sorted_once}
use Rattle.nostr_filter.proofs.Ranks.{newest_first-total, newest_first-same, parts_tie}
use Rattle.nostr_filter.proofs.choice.put_in_order.Goals as goal

pub returns : goal.returns
returns c =
    dedup_is _ _ _ c.dedup.ensures.filtered
    ∙ sorted_once newest_first-total newest_first-same parts_tie _ _ c.sort_unstable.ensures.permutation c.sort_unstable.ensures.sorted
