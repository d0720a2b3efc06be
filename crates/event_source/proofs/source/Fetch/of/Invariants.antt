use Rattle.std.proofs.Common.{◌≡◌, take}
use Rattle.event_source.specs.Fetching.{ids_of}
use Rattle.event_source.proofs.source.Fetch.of.Given as goal

abbrev pub invariant-loop-event : goal.invariant-loop-event
invariant-loop-event l = l.ids.items ≡ ids_of (take l.event-index l.given)
