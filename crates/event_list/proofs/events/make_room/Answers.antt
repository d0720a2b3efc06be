use Rattle.std.proofs.Common.{arith, ap, length, length-append}
use Rattle.std.specs.Arc.{arc_value}
use Rattle.event_list.specs.Chunks.{joined}
use Rattle.event_list.proofs.Chunked.{joined_length}
use Rattle.event_list.proofs.events.make_room.Goals as goal

pub push-requires : goal.push-requires
push-requires c =
    omega (arith, joined_length c.args.full.now c.requires.whole, length-append (joined c.args.full.now) (arc_value c.args.last.now), c.requires.few, ap length c.deref.ensures, c.len.ensures, c.if-len-lt-CHUNK.false)
