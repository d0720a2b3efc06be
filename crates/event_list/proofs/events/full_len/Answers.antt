use Rattle.std.proofs.Common.{arith}
use Rattle.event_list.proofs.Chunked.{joined_length}
use Rattle.event_list.proofs.events.full_len.Goals as goal

pub overflow_mul-result : goal.overflow_mul-result
overflow_mul-result c = omega (arith, joined_length c.args.chunks.now c.requires.full, c.requires.few)

pub returns : goal.returns
returns c = omega (arith, joined_length c.args.chunks.now c.requires.full)
