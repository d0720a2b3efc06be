use Rattle.std.proofs.lemmas.Result.{on_ok_weaker}
use Rattle.mirror_run.specs.ReconText.{recon_text}
use Rattle.mirror_run.proofs.OutputLemmas.{Appends-both}
use Rattle.mirror_run.proofs.output.write_all_of.Goals as goal

pub returns : goal.returns
unfolding recon_text
returns g c =
    on_ok_weaker c.write_count.result
    (λ last. Appends-both _ _ _ _ _ (Appends-both _ _ _ _ _ (Appends-both _ _ _ _ _ c.in_ok-write_pairs.ensures c.in_ok-write_ids.ensures) c.in_ok-write_ids-2.ensures) last)
    c.write_count.ensures
