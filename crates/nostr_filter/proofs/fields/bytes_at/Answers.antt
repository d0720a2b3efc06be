use Rattle.std.proofs.Common.{◌≡◌, Some, None, sym}
use Rattle.serde_json.specs.Find.{get, as_array}
use Rattle.serde_json.specs.View.{view, items_view}
use Rattle.nostr_filter.proofs.Hexes.{at_list, at_other}
use Rattle.nostr_filter.proofs.fields.bytes_at.Goals as goal

pub bytes_in-requires : goal.bytes_in-requires
bytes_in-requires c =
    let d = view c.args.value.now in
    let e = view c.in-Some.found.now in
    let ds = items_view c.in-Some-as_array.list.now.items in
    let here : get c.args.name.now d ≡ Some e = sym (rw c.in-Some.is at c.get.ensures) in
    let list : as_array e ≡ Some ds = sym (rw c.in-Some-as_array.is at c.as_array.ensures) in
    rw c.as_slice.ensures.value ((at_list c.args.name.now d e ds here list).1 c.requires)

pub unreachable-requires : goal.unreachable-requires
unreachable-requires c =
    let d = view c.args.value.now in
    let e = view c.in-Some.found.now in
    let here : get c.args.name.now d ≡ Some e = sym (rw c.in-Some.is at c.get.ensures) in
    let none : as_array e ≡ None = sym (rw c.in-None.is at c.as_array.ensures) in
    at_other c.args.name.now d e here none c.requires
