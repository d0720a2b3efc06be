use Rattle.std.proofs.Common.{◌≡◌, map, take}
use Rattle.nostr_wire.specs.Forms.{relay_form}
use Rattle.relay_core.specs.Due.{due}
use Rattle.relay_core.proofs.catching.due.Given as goal

abbrev pub invariant-loop-place : goal.invariant-loop-place
invariant-loop-place l = map relay_form l.out.items ≡ due l.subs (take l.place l.events)
