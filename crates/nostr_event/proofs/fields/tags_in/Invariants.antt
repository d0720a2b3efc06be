use Rattle.std.proofs.Common.{◌≡◌, map, take}
use Rattle.serde_json.specs.Data.{array}
use Rattle.serde_json.specs.View.{view}
use Rattle.nostr_event.specs.EventJson.{tag_items}
use Rattle.nostr_event.proofs.fields.tags_in.Given as goal

abbrev pub invariant-loop-value : goal.invariant-loop-value
invariant-loop-value l = map view (take l.value-index l.values) ≡ map (λ t. array (tag_items t)) l.tags
