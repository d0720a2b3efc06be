-- What is said of an event that was to be stored (OK of NIP-01).
use Rattle.std.specs.Prelude.{Bool, true, false, if◌then◌else◌, codes}
use Rattle.item_key.specs.declared.Id.{Id}
use Rattle.event_store.specs.declared.desk.InsertFault.TheVariants.{Full, Memory}
use Rattle.nostr_wire.specs.Forms.{Form}
use Rattle.relay_core.specs.declared.storing.StoringFault.{StoringFault}
use Rattle.relay_core.specs.declared.storing.StoringFault.TheVariants.{Refused, Unkept}
use Rattle.relay_core.specs.Messages.{okay}

-- it is published, now or before, and kept
abbrev pub placed_answer : Id → Bool → Form
placed_answer id fresh = okay id true (if fresh then codes "" else codes "duplicate: already have this event")

-- it isn't published, or isn't kept
abbrev pub fault_answer : {J : Type 0} → Id → StoringFault J → Form
fault_answer id (Refused (Full filled)) = okay id false (codes "error: the store is full")
fault_answer id (Refused Memory) = okay id false (codes "error: out of memory")
fault_answer id Unkept = okay id false (codes "error: the events file can't be written")
