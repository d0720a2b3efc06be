use Rattle.std.proofs.Common.{◌≡◌, ◌<◌, Some, length, ap, ◌∙◌, arith}
use Rattle.std.specs.Arc.{arc_value}
use Rattle.std.specs.declared.sync.Arc.{Arc as AnArc}
use Rattle.std.specs.declared.alloc.Global.{Global as AGlobal}
use Rattle.std.specs.Prelude.{slice_get}
use Rattle.std.proofs.lemmas.List.{length-map}
use Rattle.std.proofs.lemmas.Option.{slice_get-get_or}
use Rattle.item_key.specs.declared.Id.{Id}
use Rattle.nostr_event.specs.EventView.{EventView}
use Rattle.event_source.specs.Fetching.{ids_of}
use Rattle.mirror_core.proofs.Given.{id_at}
use Rattle.mirror_core.proofs.Placing.{right_more, whole_more, places_of_all}
use Rattle.mirror_core.proofs.places.Places.of.Goals as goal

pub loop-k-preserved : goal.loop-k-preserved
loop-k-preserved c =
    let given = c.args.given.now in
    let k = c.loop-k.k in
    let id = c.id.result in
    let lt : k < length given = omega (arith, c.loop-k-test.true, c.loop-k.auto.k-end) in
    let at : slice_get (ids_of given) k ≡ Some id =
    slice_get-get_or (ids_of given) k id (omega (arith, lt, length-map given (λ (z : AnArc EventView AGlobal). (arc_value z).id)))
    ∙ ap (λ (z : Id). Some z) (id_at given k c.index-given-k.result c.deref.result.now id id lt c.index-given-k.is c.deref.ensures c.id.ensures.value) in
    let put = c.in_ok-insert.ensures.updates.0 in
    record {
      right = right_more (ids_of given) k id at c.loop-k.by_id c.insert.new.self put c.loop-k.invariant.right;
      whole = whole_more (ids_of given) k id at c.loop-k.by_id c.insert.new.self put c.loop-k.invariant.whole;
    }

pub returns : goal.returns
returns c =
    let given = c.args.given.now in
    places_of_all (ids_of given) c.loop-k.k c.loop-k.by_id
    (omega (arith, c.loop-k-test.false, c.loop-k.auto.k-end, length-map given (λ (z : AnArc EventView AGlobal). (arc_value z).id)))
    c.loop-k.invariant.right c.loop-k.invariant.whole
