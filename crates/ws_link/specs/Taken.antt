-- What a message says to a fetch, and what is kept of it.
use Rattle.std.specs.Prelude.{◌≡◌, ⊤, List, Option, None}
use Rattle.item_key.specs.declared.Id.{Id}
use Rattle.nostr_event.specs.EventView.{EventView}
use Rattle.nostr_wire.specs.declared.messages.FromRelay.{FromRelay}
use Rattle.nostr_wire.specs.Forms.{relay_form}
use Rattle.wire.specs.Line.{Talk}
use Rattle.ws_link.specs.declared.source.Came.{Came}
use Rattle.ws_link.specs.declared.source.Part.{Part}
use Rattle.ws_link.specs.Fetched.{Brings, IsForFetch, bringing, ending, has_id, is_due, keep}
use Rattle.ws_link.specs.Messages.{Hears, IsSaid}

-- an event or the end is that of a message for the fetch, and another message is none of these
abbrev pub Tells : FromRelay → Part → Type 0
Tells message (Part.Event e) = relay_form message ≡ bringing e.value
Tells message Part.End = relay_form message ≡ ending
Tells message (Part.Closed text) = ⊤
Tells message Part.Other = IsForFetch (relay_form message) → ⊥

-- the same of the message that came
abbrev pub MayTell : Talk → Talk → Part → Type 0
MayTell old new (Part.Event e) = Hears (IsSaid (bringing e.value)) old new
MayTell old new Part.End = Hears (IsSaid ending) old new
MayTell old new (Part.Closed text) = ⊤
MayTell old new Part.Other = Hears (Brings None) old new

-- a message came which brought an event or none, and what it brought was kept if it was due
abbrev pub Keeps : List Id → Talk → List EventView → Talk → List EventView → Type 0
Keeps asked old before new after = (b : Option EventView) × Hears (Brings b) old new × (after ≡ keep asked before b)

-- the same, or the stored events ended, and what was kept stayed
abbrev pub Takes : List Id → Talk → List EventView → Talk → List EventView → Came → Type 0
Takes asked old before new after Came.Due = Keeps asked old before new after
Takes asked old before new after Came.Other = Keeps asked old before new after
Takes asked old before new after Came.End = Hears (IsSaid ending) old new × (after ≡ before)

-- An event is due where its id is one of these.
abbrev pub AreDue : List Id → List EventView → List Id → Type 0
AreDue asked kept due = (e : EventView) → has_id due e.id ≡ is_due asked kept e

-- Whichever ids were asked for, of which those that are due are known before: a message is taken, and they are known after it.
abbrev pub TakesDue : Talk → List EventView → List Id → Talk → List EventView → List Id → Came → Type 0
TakesDue old before due new after left came =
    (asked : List Id) → AreDue asked before due → Takes asked old before new after came × AreDue asked after left
