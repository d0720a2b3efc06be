use Rattle.std.proofs.Common.{sym, arith}
use Rattle.mirror_run.specs.ReconText.{exchange_text}
use Rattle.mirror_run.proofs.OutputLemmas.{Appends-both, Appends-same, flat_map-more}
use Rattle.mirror_run.proofs.output.write_pairs.Goals as goal

pub loop-pair-preserved : goal.loop-pair-preserved
loop-pair-preserved g c =
    Appends-same _ _ _ _ (sym (flat_map-more exchange_text c.args.pairs.now c.loop-pair.pair-index c.pair-item.result (omega arith) c.pair-item.is))
    (Appends-both _ _ _ _ _ c.loop-pair.invariant c.in_ok-write_pair.ensures)
