use Rattle.std.proofs.Common.{arith, ap, ◌∙◌, length, flat_map}
use Rattle.std.specs.Arc.{arc_value}
use Rattle.std.proofs.lemmas.List.{take_all}
use Rattle.event_table.proofs.Matched.{place_in_range}
use Rattle.event_table.proofs.Ranked.{rank_at, ranked_is, ranks_more}
use Rattle.event_table.proofs.choosing.ranks_at.Goals as goal

pub get-requires : goal.get-requires
get-requires c = place_in_range 0 (length c.args.events.now) c.args.places.now c.loop-place.place-index 0 c.requires.rise c.loop-place-test.true

pub loop-place-preserved : goal.loop-place-preserved
loop-place-preserved c =
    ranks_more c.args.filter.now c.args.events.now c.loop-place.ranks.items c.put_rank.new.ranks.items c.args.places.now c.loop-place.place-index (arc_value c.get.result.now) c.loop-place-test.true c.get.ensures c.loop-place.invariant
    c.in_ok-put_rank.ensures

pub returns : goal.returns
returns c =
    c.loop-place.invariant ∙ ap (flat_map (rank_at c.args.filter.now c.args.events.now)) (take_all c.loop-place.place-index c.args.places.now (omega arith))
    ∙ ranked_is c.args.filter.now c.args.events.now c.args.places.now c.requires
