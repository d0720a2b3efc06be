use Rattle.event_table.proofs.Matched.{found_more}
use Rattle.event_table.proofs.matching.places_of.Goals as goal

pub loop-id-preserved : goal.loop-id-preserved
loop-id-preserved c =
    found_more c.args.table.now c.args.ids.now c.loop-id.id-index _ c.place.result c.loop-id.places.items c.put_place.new.places.items c.loop-id-test.true c.place.ensures c.loop-id.invariant c.in_ok-put_place.ensures
