use Rattle.std.proofs.Common.{◌↔◌, drop}
use Rattle.serde_json.specs.View.{items_view}
use Rattle.nostr_filter.specs.FilterJson.{AreHex}
use Rattle.nostr_filter.proofs.tested.are_hex.Given as goal

abbrev pub invariant-loop-value : goal.invariant-loop-value
invariant-loop-value l = AreHex (items_view l.values) ↔ AreHex (items_view (drop l.value-index l.values))
