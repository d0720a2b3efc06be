use Rattle.std.proofs.Common.{true, inr}
use Rattle.std.proofs.lemmas.Result.{err_from_is_err_and}
use Rattle.toml.specs.View.{table_view}
use Rattle.mirror_settings.specs.declared.fault.SettingsKey.TheVariants.{EveryMs, Passes, Live}
use Rattle.mirror_settings.proofs.Refusals.{one_more, stopped}
use Rattle.mirror_settings.proofs.reading.mirroring_at.Goals as goal

pub returns-in_err-every_ms-clause-err : goal.returns-in_err-every_ms-clause-err
returns-in_err-every_ms-clause-err c =
    let t = table_view c.args.table.now in
    let p = err_from_is_err_and c.from_residual.result c.from_residual.ensures.1 in
    rw (p.1, p.2) (λ s below. stopped s true t EveryMs _ below (inr (c.in_err-every_ms.ensures.err.0, λ g. c.in_err-every_ms.ensures.err.1 g.0 g.1)))

pub returns-in_err-passes-clause-err : goal.returns-in_err-passes-clause-err
returns-in_err-passes-clause-err c =
    let t = table_view c.args.table.now in
    let p = err_from_is_err_and c.from_residual-in_err-passes.result c.from_residual-in_err-passes.ensures.1 in
    rw (p.1, p.2) (λ s below. stopped s true t Passes _ (one_more s true t EveryMs below (c.in_ok-every_ms.every_ms, c.in_ok-every_ms.ensures.ok)) (inr (c.in_err-passes.ensures.err.0, λ g. c.in_err-passes.ensures.err.1 g.0 g.1)))

pub returns-in_err-live-clause-err : goal.returns-in_err-live-clause-err
returns-in_err-live-clause-err c =
    let t = table_view c.args.table.now in
    let p = err_from_is_err_and c.from_residual-in_err-live.result c.from_residual-in_err-live.ensures.1 in
    rw (p.1, p.2) (λ s below. stopped s true t Live _ (one_more s true t Passes (one_more s true t EveryMs below (c.in_ok-every_ms.every_ms, c.in_ok-every_ms.ensures.ok)) (c.in_ok-passes.passes, c.in_ok-passes.ensures.ok)) (inr (c.in_err-live.ensures.err.0, λ g. c.in_err-live.ensures.err.1 g.0 g.1)))
