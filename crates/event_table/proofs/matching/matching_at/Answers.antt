use Rattle.std.proofs.Common.{arith, ap, ◌∙◌, length, slice_get}
use Rattle.std.specs.Arc.{arc_value}
use Rattle.std.specs.Prelude.{filter_map}
use Rattle.std.proofs.lemmas.List.{take_all}
use Rattle.event_table.specs.Events.{matching}
use Rattle.event_table.proofs.Matched.{place_in_range, picked_is, picked_more, few_more}
use Rattle.event_table.proofs.matching.matching_at.Goals as goal

pub get-requires : goal.get-requires
get-requires c = place_in_range 0 (length c.args.events.now) c.args.places.now c.loop-place.place-index 0 c.requires.rise c.loop-place-test.true

pub loop-place-preserved : goal.loop-place-preserved
loop-place-preserved c =
    let f = c.args.filter.now in
    let e = arc_value c.get.result.now in
    record {
      list = picked_more f c.args.events.now c.loop-place.all c.put_matching.new.all c.args.places.now c.loop-place.place-index e c.loop-place-test.true c.get.ensures c.loop-place.invariant.list c.in_ok-put_matching.ensures;
      few = few_more f c.loop-place.all c.put_matching.new.all e c.loop-place.place-index c.in_ok-put_matching.ensures c.loop-place.invariant.few;
    }

pub returns : goal.returns
returns c =
    c.loop-place.invariant.list ∙ ap (λ ps. matching c.args.filter.now (filter_map (slice_get c.args.events.now) ps)) (take_all c.loop-place.place-index c.args.places.now (omega arith))
    ∙ picked_is c.args.filter.now c.args.events.now c.args.places.now c.requires
