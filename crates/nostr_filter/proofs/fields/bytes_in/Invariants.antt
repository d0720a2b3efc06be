use Rattle.std.proofs.Common.{◌≡◌, All, Some, map, take, drop}
use Rattle.serde_json.specs.Find.{as_str}
use Rattle.serde_json.specs.View.{view, items_view}
use Rattle.nostr_event.specs.EventView.{IsBytesOf}
use Rattle.nostr_filter.specs.FilterJson.{hex_texts, AreHex}
use Rattle.nostr_filter.proofs.fields.bytes_in.Given as goal

abbrev pub invariant-loop-value : goal.invariant-loop-value
invariant-loop-value l = record {
  texts : map (λ v. as_str (view v)) (take l.value-index l.values) ≡ map Some (hex_texts l.list.items);
  bytes : All (IsBytesOf 32) l.list.items;
  left : AreHex (items_view (drop l.value-index l.values));
}
