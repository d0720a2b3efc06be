use Rattle.std.specs.Arc.{arc_value}
use Rattle.event_file.proofs.Written.{appends_more}
use Rattle.event_file.proofs.writing.write_all.Goals as goal

pub loop-place-preserved : goal.loop-place-preserved
loop-place-preserved g c =
    appends_more _ _ _ c.args.events.now c.loop-place.place (arc_value c.get.result.now) c.get.ensures c.loop-place.invariant c.in_ok-write_line.ensures
