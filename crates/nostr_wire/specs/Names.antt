-- A name, its own or shared.
use Rattle.std.specs.Prelude.{ℕ, List}
use Rattle.std.specs.Arc.{arc_value}
use Rattle.nostr_wire.specs.declared.names.NameKind.{NameKind}
use Rattle.nostr_wire.specs.declared.names.NameKind.TheVariants.{Own, Shared}

abbrev pub name_at : NameKind → List ℕ
name_at (Own s) = s
name_at (Shared h) = arc_value h
