use Rattle.std.proofs.Common.{replicate}
use Rattle.item_roll.proofs.Marked.{marked_none}
use Rattle.item_roll.proofs.chunk.Chunk.with_room.Goals as goal

pub mark_from-requires-clause-marked : goal.mark_from-requires-clause-marked
mark_from-requires-clause-marked c = marked_none c.args.items.now (replicate 16 c.zero-marks.result) (λ _. c.zero-marks.ensures)
