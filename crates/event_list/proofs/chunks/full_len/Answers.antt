use Rattle.std.proofs.Common.{arith, map}
use Rattle.std.specs.Arc.{arc_value}
use Rattle.std.proofs.lemmas.List.{length-map}
use Rattle.event_list.proofs.Chunked.{joined_length}
use Rattle.event_list.proofs.chunks.full_len.Goals as goal

pub overflow_mul-result : goal.overflow_mul-result
overflow_mul-result g c = omega (arith, joined_length (map arc_value c.args.chunks.now) c.requires.full, length-map c.args.chunks.now arc_value, c.requires.few)

pub returns : goal.returns
returns g c = omega (arith, joined_length (map arc_value c.args.chunks.now) c.requires.full, length-map c.args.chunks.now arc_value)
