use Rattle.std.proofs.Common.{◌≡◌, All, map, take}
use Rattle.hex.specs.Hex.{encode_lower}
use Rattle.serde_json.specs.Data.{string}
use Rattle.serde_json.specs.View.{view}
use Rattle.nostr_event.specs.EventView.{IsBytesOf}
use Rattle.nostr_filter.proofs.writing.hex_value.Given as goal

abbrev pub invariant-loop-bytes : goal.invariant-loop-bytes
invariant-loop-bytes l = record {
  values : map view l.values.items ≡ map (λ b. string (encode_lower b)) (take l.bytes-index l.bytes-items);
  bytes : All (IsBytesOf 32) (take l.bytes-index l.bytes-items);
}
