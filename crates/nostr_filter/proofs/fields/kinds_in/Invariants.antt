use Rattle.std.proofs.Common.{◌≡◌, map, take, Some}
use Rattle.serde_json.specs.View.{view}
use Rattle.nostr_filter.specs.FilterJson.{kind_of}
use Rattle.nostr_filter.proofs.fields.kinds_in.Given as goal

abbrev pub invariant-loop-value : goal.invariant-loop-value
invariant-loop-value l = map (λ v. kind_of (view v)) (take l.value-index l.values) ≡ map Some l.kinds.items
