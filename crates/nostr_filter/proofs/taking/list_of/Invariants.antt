use Rattle.std.proofs.Common.{◌≡◌, ◌++◌, map}
use Rattle.std.specs.Vec.Iter.{into_iter_items}
use Rattle.serde_json.specs.Data.{string}
use Rattle.serde_json.specs.View.{view}
use Rattle.nostr_filter.proofs.taking.list_of.Given as goal

abbrev pub invariant-loop-value : goal.invariant-loop-value
invariant-loop-value l = (map view l.yielded ≡ map string l.texts.items) × (l.fn.values.items ≡ l.yielded ++ into_iter_items l.value-iterator)
