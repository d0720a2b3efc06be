use Rattle.std.proofs.lemmas.Result.{on_ok_weaker}
use Rattle.sync_run.proofs.Loads.{begin_with}
use Rattle.sync_run.proofs.Results.{on_ok_given}
use Rattle.sync_run.proofs.run.run_sync_with.Goals as goal

pub returns : goal.returns
returns g c =
    let told = c.in_ok-settings.ensures.ok in
    on_ok_weaker c.run_named.result (λ printed. (told.0, c.in_ok-settings.settings, told.1, told.2, λ quiet. begin_with told.0 c.in_ok-settings.settings _ _ told.2 (printed quiet))) (on_ok_given _ c.run_named.result c.run_named.ensures)
