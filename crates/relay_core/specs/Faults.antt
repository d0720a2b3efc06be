-- How a connection goes on, and when a call is refused.
use Rattle.std.specs.Prelude.{◌≡◌, Option, Some, None}
use Rattle.event_store.specs.declared.reader.PinFault.{PinFault}
use Rattle.event_store.specs.declared.reader.PinFault.TheVariants as pin
use Rattle.relay_core.specs.declared.fault.Broken.{Broken}
use Rattle.relay_core.specs.declared.fault.Broken.TheVariants as broken
use Rattle.relay_core.specs.declared.fault.ConnFault.{ConnFault}
use Rattle.relay_core.specs.declared.fault.ConnFault.TheVariants.{Gone, Memory, Closed}
use Rattle.relay_core.specs.Kept.{Kept}

-- an open connection goes on so, and stays open
abbrev pub GoesOnBy : (Kept → Kept → Type 0) → Option Kept → Option Kept → Type 0
GoesOnBy R (Some old) (Some new) = R old new
GoesOnBy R (Some old) None = ⊥
GoesOnBy R None new = ⊥

-- Closed just where a call before ended in a fault; each fault closes. The store can be told as gone just where it was asked.
abbrev pub RefusesRightly : (Kept → Type 0) → Option Kept → ConnFault → Option Kept → Type 0
RefusesRightly Asked old Closed new = (old ≡ None) × (new ≡ None)
RefusesRightly Asked old Gone new = ((t : Kept) × (old ≡ Some t) × Asked t) × (new ≡ None)
RefusesRightly Asked old Memory new = ((t : Kept) × (old ≡ Some t)) × (new ≡ None)

-- each cause is told as itself
abbrev pub broken_by : PinFault → Broken
broken_by pin.Gone = broken.Gone
broken_by pin.Memory = broken.Memory

abbrev pub told_as : Broken → ConnFault
told_as broken.Gone = Gone
told_as broken.Memory = Memory
