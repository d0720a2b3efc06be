use Rattle.std.proofs.Common.{map, take}
use Rattle.toml.specs.View.{view}
use Rattle.mirror_settings.specs.Relays.{AreRelays}
use Rattle.mirror_settings.proofs.values.relays_in.Given as goal

abbrev pub invariant-loop-value : goal.invariant-loop-value
invariant-loop-value l = AreRelays (map view (take l.value-index l.values)) l.relays.items
