use Rattle.std.proofs.Common.{◌≡◌, map, take}
use Rattle.ws_link.proofs.source.bytes_of.Given as goal

abbrev pub invariant-loop-id : goal.invariant-loop-id
invariant-loop-id l = l.bytes.items ≡ map (λ i. i.0) (take l.id-index l.ids)
