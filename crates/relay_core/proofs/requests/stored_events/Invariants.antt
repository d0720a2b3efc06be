use Rattle.std.proofs.Common.{◌≡◌, ◌++◌, map, drop, slice_get}
use Rattle.std.specs.Prelude.{filter_map}
use Rattle.nostr_wire.specs.Forms.{relay_form}
use Rattle.relay_core.specs.Messages.{event_to}
use Rattle.relay_core.proofs.requests.stored_events.Given as goal

abbrev pub invariant-loop-place : goal.invariant-loop-place
invariant-loop-place l = map relay_form l.out.items ++ map (event_to l.name) (filter_map (slice_get l.events) (drop l.place-index l.places)) ≡ map (event_to l.name) (filter_map (slice_get l.events) l.places)
