use Rattle.std.proofs.Common.{sym}
use Rattle.neg_codec.proofs.Lengths.{text_none}
use Rattle.neg_draft.proofs.ranges.Ranges.none.Goals as goal

pub invariant_of-result : goal.invariant_of-result
invariant_of-result c = rw c.new.ensures.items (sym text_none, c.lowest.ensures)
