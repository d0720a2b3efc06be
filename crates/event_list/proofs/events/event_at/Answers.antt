use Rattle.std.proofs.Common.{arith, ap, sym, ◌≡◌, ◌∙◌, ◌<◌, ◌/◌, length, Some, slice_get}
use Rattle.std.specs.Arc.{arc_value}
use Rattle.std.proofs.lemmas.Option.{get_or_from_slice_get}
use Rattle.event_list.proofs.Chunked.{joined_length, found_full, full_at}
use Rattle.event_list.proofs.events.event_at.Goals as goal

pub get-requires : goal.get-requires
get-requires c = omega (arith, joined_length c.args.chunks.now c.requires.full, c.requires.within)

pub get-requires-2 : goal.get-requires-2
get-requires-2 c =
    let chunks = c.args.chunks.now in
    let at = c.args.place / 128 in
    let found = c.deref.result.now in
    let is : slice_get chunks at ≡ Some found = c.get.ensures ∙ ap Some (sym c.deref.ensures) in
    let within : at < length chunks = omega (arith, joined_length chunks c.requires.full, c.requires.within) in
    omega (arith, full_at chunks at found c.requires.full within, ap length (get_or_from_slice_get chunks at found found is))

pub returns : goal.returns
returns c =
    let chunks = c.args.chunks.now in
    let found = c.deref.result.now in
    let is : slice_get chunks (c.args.place / 128) ≡ Some found = c.get.ensures ∙ ap Some (sym c.deref.ensures) in
    found_full chunks found c.args.place (arc_value c.get-2.result.now) c.requires.full c.requires.within (get_or_from_slice_get chunks (c.args.place / 128) found found is) c.get-2.ensures
