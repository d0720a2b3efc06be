use Rattle.std.proofs.Common.{arith, sym, map, ap, ◌∙◌, ◌<◌, ◌/◌, length}
use Rattle.std.specs.Arc.{arc_value}
use Rattle.std.proofs.lemmas.List.{length-map, get_or-map}
use Rattle.event_list.proofs.Chunked.{joined_length, found_full, full_at}
use Rattle.event_list.proofs.chunks.item_at.Goals as goal

pub bounds-chunks-place : goal.bounds-chunks-place
bounds-chunks-place g c = omega (arith, joined_length (map arc_value c.args.chunks.now) c.requires.full, length-map c.args.chunks.now arc_value, c.requires.within)

pub get-requires : goal.get-requires
get-requires g c =
    let all = joined_length (map arc_value c.args.chunks.now) c.requires.full in
    let few = length-map c.args.chunks.now arc_value in
    let chunk : c.args.place / 128 < length c.args.chunks.now = omega (arith, all, few, c.requires.within) in
    let whole = full_at (map arc_value c.args.chunks.now) (c.args.place / 128) (arc_value c.index-chunks-place.result) c.requires.full (omega (arith, few, chunk)) in
    let same = get_or-map arc_value c.args.chunks.now (c.args.place / 128) c.index-chunks-place.result (arc_value c.index-chunks-place.result) chunk ∙ ap arc_value (sym c.index-chunks-place.is) ∙ sym c.deref.ensures in
    omega (arith, ap length same, whole)

pub returns : goal.returns
returns g c =
    let all = joined_length (map arc_value c.args.chunks.now) c.requires.full in
    let few = length-map c.args.chunks.now arc_value in
    let chunk : c.args.place / 128 < length c.args.chunks.now = omega (arith, all, few, c.requires.within) in
    let same = get_or-map arc_value c.args.chunks.now (c.args.place / 128) c.index-chunks-place.result c.deref.result.now chunk ∙ ap arc_value (sym c.index-chunks-place.is) ∙ sym c.deref.ensures in
    found_full (map arc_value c.args.chunks.now) c.deref.result.now c.args.place (arc_value c.get.result.now) c.requires.full c.requires.within same c.get.ensures
