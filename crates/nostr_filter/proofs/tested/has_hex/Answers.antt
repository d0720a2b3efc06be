use Rattle.std.proofs.Common.{◌≡◌, ◌↔◌, IsTrue, Some, sym}
use Rattle.serde_json.specs.Find.{get, as_array}
use Rattle.serde_json.specs.View.{view, items_view}
use Rattle.nostr_filter.specs.FilterJson.{AreHex}
use Rattle.nostr_filter.proofs.Hexes.{at_list}
use Rattle.nostr_filter.proofs.tested.has_hex.Goals as goal

pub returns-in-Some-as_array : goal.returns-in-Some-as_array
returns-in-Some-as_array c =
    let d = view c.args.value.now in
    let e = view c.in-Some.found.now in
    let ds = items_view c.in-Some-as_array.list.now.items in
    let here : get c.args.name.now d ≡ Some e = sym (rw c.in-Some.is at c.get.ensures) in
    let list : as_array e ≡ Some ds = sym (rw c.in-Some-as_array.is at c.as_array.ensures) in
    let inner : IsTrue c.are_hex.result ↔ AreHex ds = rw (← c.as_slice.ensures.value) c.are_hex.ensures in
    let both = at_list c.args.name.now d e ds here list in
    (λ yes. both.0 (inner.0 yes), λ h. inner.1 (both.1 h))
