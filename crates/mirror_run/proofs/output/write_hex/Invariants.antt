use Rattle.std.proofs.Common.{◌≡◌, ◌++◌, List, ℕ, length}
use Rattle.mirror_run.specs.Waiting.{Sends}
use Rattle.hex.specs.Hex.{encode_lower}
use Rattle.mirror_run.proofs.output.write_hex.Given as goal

abbrev pub invariant-loop-rest : goal.invariant-loop-rest
invariant-loop-rest g l =
    (done : List ℕ) × (l.bytes ≡ done ++ l.rest)
    × Sends (g.W.Write.contents l.initial.out) l.initial.wait.items (g.W.Write.contents l.out) l.wait.items (encode_lower done)

abbrev pub decreases-loop-rest : goal.decreases-loop-rest
decreases-loop-rest g l = length l.rest
