use Rattle.std.proofs.Common.{◌≡◌, All, map, take}
use Rattle.toml.specs.View.{view}
use Rattle.mirror_settings.specs.Settings.{whole_data, IsLoad}
use Rattle.mirror_settings.proofs.values.loads_in.Given as goal

abbrev pub invariant-loop-value : goal.invariant-loop-value
invariant-loop-value l = record {
  values : map view (take l.value-index l.values) ≡ map whole_data l.loads.items;
  all : All IsLoad l.loads.items;
}
