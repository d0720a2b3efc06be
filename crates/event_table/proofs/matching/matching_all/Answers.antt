use Rattle.std.specs.Arc.{arc_value}
use Rattle.event_table.proofs.Matched.{matching_more, few_more}
use Rattle.event_table.proofs.matching.matching_all.Goals as goal

pub loop-place-preserved : goal.loop-place-preserved
loop-place-preserved c =
    let f = c.args.filter.now in
    let e = arc_value c.get.result.now in
    record {
      list = matching_more f c.args.events.now c.loop-place.all c.put_matching.new.all c.loop-place.place e c.get.ensures c.loop-place.invariant.list c.in_ok-put_matching.ensures;
      few = few_more f c.loop-place.all c.put_matching.new.all e c.loop-place.place c.in_ok-put_matching.ensures c.loop-place.invariant.few;
    }
