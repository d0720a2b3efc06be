use Rattle.std.proofs.Common.{take}
use Rattle.std.specs.List.{flat_map}
use Rattle.mirror_run.specs.Waiting.{Sends}
use Rattle.mirror_run.specs.ReconText.{exchange_text}
use Rattle.mirror_run.proofs.output.write_pairs.Given as goal

abbrev pub invariant-loop-pair : goal.invariant-loop-pair
invariant-loop-pair g l =
    Sends (g.W.Write.contents l.initial.out) l.initial.wait.items (g.W.Write.contents l.out) l.wait.items
    (flat_map exchange_text (take l.pair-index l.pairs))
