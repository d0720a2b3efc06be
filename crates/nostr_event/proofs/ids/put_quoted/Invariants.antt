use Rattle.std.proofs.Common.{◌≡◌, ◌++◌, flat_map, length}
use Rattle.nostr_event.specs.IdText.{byte_text}
use Rattle.nostr_event.proofs.ids.put_quoted.Given as goal

abbrev pub invariant-loop-rest : goal.invariant-loop-rest
invariant-loop-rest l = l.out.items ++ flat_map (byte_text l.spelling) l.rest ≡ l.initial.out.items ++ flat_map (byte_text l.spelling) l.initial.rest

abbrev pub decreases-loop-rest : goal.decreases-loop-rest
decreases-loop-rest l = length l.rest
