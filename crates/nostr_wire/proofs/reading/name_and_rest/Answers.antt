use Rattle.std.proofs.Common.{◌≡◌, Some, sym}
use Rattle.serde_json.specs.Find.{as_str, as_array}
use Rattle.serde_json.specs.View.{view, items_view}
use Rattle.nostr_wire.proofs.Arrays.{found_at}
use Rattle.nostr_wire.proofs.reading.name_and_rest.Goals as goal

pub returns-in-Some-as_str-clause-found : goal.returns-in-Some-as_str-clause-found
returns-in-Some-as_str-clause-found c =
    let listed : as_array (view c.args.value.now) ≡ Some (items_view c.in-Some.list.now.items) = sym (rw c.in-Some.is at c.as_array_mut.ensures.value) in
    let items : as_array (view c.args.value.now) ≡ Some (items_view c.as_mut_slice.result.now) = rw c.as_mut_slice.ensures.value listed in
    let text : as_str (view c.rest-item.result) ≡ Some c.in-Some-as_str.name.now = sym (rw c.in-Some-as_str.is at c.as_str.ensures) in
    found_at (view c.args.value.now) c.as_mut_slice.result.now c.rest-item.result _ items c.in-len1-up.len_at_least c.rest-item.is text
