use Rattle.std.proofs.Common.{◌≡◌, ◌++◌, map, take}
use Rattle.serde_json.specs.View.{view}
use Rattle.nostr_wire.specs.Elements.{filter, data_of}
use Rattle.nostr_wire.proofs.Several.{AreSaid}
use Rattle.nostr_wire.proofs.writing.put_filters.Given as goal

abbrev pub invariant-loop-filter : goal.invariant-loop-filter
invariant-loop-filter l = record {
  values : map view l.values.items ≡ map view l.initial.values.items ++ map data_of (map filter (take l.filter-index l.filters));
  says : AreSaid (take l.filter-index l.filters);
}
