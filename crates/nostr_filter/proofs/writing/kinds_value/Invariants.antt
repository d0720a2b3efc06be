use Rattle.std.proofs.Common.{◌≡◌, ◌<◌, ◌^◌, All, map, take}
use Rattle.serde_json.specs.Data.{number, unsigned}
use Rattle.serde_json.specs.View.{view}
use Rattle.nostr_filter.proofs.writing.kinds_value.Given as goal

abbrev pub invariant-loop-kind : goal.invariant-loop-kind
invariant-loop-kind l = record {
  values : map view l.values.items ≡ map (λ k. number (unsigned k)) (take l.kind-index l.kind-items);
  fits : All (λ k. k < 2 ^ 16) (take l.kind-index l.kind-items);
}
