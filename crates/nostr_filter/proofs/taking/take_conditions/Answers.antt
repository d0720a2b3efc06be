use Rattle.nostr_filter.proofs.TagReading.{read_in_order}
use Rattle.nostr_filter.proofs.taking.take_conditions.Goals as goal

pub unreachable-requires-in-Err : goal.unreachable-requires-in-Err
unreachable-requires-in-Err c = c.in-Err.ensures.given_back.1 (read_in_order _ _ c.in_ok-conditions_in.ensures)
