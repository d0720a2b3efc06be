use Rattle.std.proofs.Common.{◌≡◌, ◌++◌, map, drop}
use Rattle.std.specs.Arc.{arc_value}
use Rattle.nostr_wire.specs.Forms.{relay_form}
use Rattle.relay_core.specs.Due.{sent_at}
use Rattle.relay_core.proofs.catching.put_due.Given as goal

abbrev pub invariant-loop-sub : goal.invariant-loop-sub
invariant-loop-sub l = map relay_form l.out.items ++ sent_at l.place (arc_value l.event) (drop l.sub-index l.subs) ≡ map relay_form l.initial.out.items ++ sent_at l.place (arc_value l.event) l.subs
