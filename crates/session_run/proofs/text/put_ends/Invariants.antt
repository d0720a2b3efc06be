use Rattle.std.proofs.Common.{◌≡◌, ◌++◌, flat_map, string_bytes, take}
use Rattle.std.specs.List.{enumerate_from}
use Rattle.session_run.specs.Lines.{end_line}
use Rattle.session_run.proofs.text.put_ends.Given as goal

abbrev pub invariant-loop-relay : goal.invariant-loop-relay
invariant-loop-relay l = string_bytes l.text ≡ string_bytes l.initial.text ++ flat_map (λ p. end_line p.0 p.1) (take l.relay (enumerate_from 0 l.ends))
