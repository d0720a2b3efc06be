-- When an insert is refused.
use Rattle.std.specs.Prelude.{◌≡◌, ◌<◌, ℕ, false, List, length}
use Rattle.nostr_event.specs.EventView.{EventView}
use Rattle.event_store.specs.declared.desk.InsertFault.{InsertFault}
use Rattle.event_store.specs.declared.desk.InsertFault.TheVariants.{Full, Memory}
use Rattle.event_table.specs.Events.{has_id}

-- full only where a new event finds no room, with the published list; want of memory only where it finds room
abbrev pub RefusesRightly : {J : Type 0} → ℕ → EventView → List EventView → InsertFault J → Type 0
RefusesRightly most e published (Full filled) = (filled ≡ published) × (length published ≡ most) × (has_id e.id published ≡ false)
RefusesRightly most e published Memory = (has_id e.id published ≡ false) × (length published < most)
