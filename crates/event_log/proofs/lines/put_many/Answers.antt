use Rattle.std.specs.Arc.{arc_value}
use Rattle.event_log.proofs.Logging.{lines_more}
use Rattle.event_log.proofs.lines.put_many.Goals as goal

pub loop-place-preserved : goal.loop-place-preserved
loop-place-preserved c =
    lines_more c.args.events.now c.args.start c.loop-place.place (arc_value c.get.result.now) c.loop-place.text.items _ c.get.ensures c.loop-place.invariant c.in_ok-put_line.ensures

pub returns-then-len-ge-MANY-clause-lines : goal.returns-then-len-ge-MANY-clause-lines
returns-then-len-ge-MANY-clause-lines c =
    lines_more c.args.events.now c.args.start c.loop-place.place (arc_value c.get.result.now) c.loop-place.text.items _ c.get.ensures c.loop-place.invariant c.in_ok-put_line.ensures
