use Rattle.std.proofs.Common.{◌≡◌, ◌++◌, codes, decimal, flat_map, string_bytes}
use Rattle.session_run.proofs.text.put_members.Given as goal

-- what is put, and what is left to put, is all of it
abbrev pub invariant-loop-relay : goal.invariant-loop-relay
invariant-loop-relay l = string_bytes l.text ++ flat_map (λ r. codes " " ++ decimal r) l.relay-iterator ≡ string_bytes l.initial.text ++ flat_map (λ r. codes " " ++ decimal r) l.fn.group
