use Rattle.std.proofs.lemmas.Result.{err_from_is_err_and}
use Rattle.toml.specs.View.{table_view}
use Rattle.mirror_settings.proofs.Parts.{serving_is_good, fetching_is_good}
use Rattle.mirror_settings.proofs.reading.settings_of.Goals as goal

pub returns-in_err-fetching-clause-err : goal.returns-in_err-fetching-clause-err
returns-in_err-fetching-clause-err c =
    let s = c.args.sync in
    let m = c.args.mirror in
    let t = table_view c.args.table.now in
    let p = err_from_is_err_and c.from_residual-in_err-fetching.result c.from_residual-in_err-fetching.ensures.1 in
    let serving = serving_is_good s m t _ c.in_ok-serving.ensures.ok in
    rw (p.1, p.2) (c.in_err-fetching.ensures.err m serving)

pub returns-in_err-running-clause-err : goal.returns-in_err-running-clause-err
returns-in_err-running-clause-err c =
    let s = c.args.sync in
    let m = c.args.mirror in
    let t = table_view c.args.table.now in
    let p = err_from_is_err_and c.from_residual-in_err-running.result c.from_residual-in_err-running.ensures.1 in
    let serving = serving_is_good s m t _ c.in_ok-serving.ensures.ok in
    rw (p.1, p.2) (c.in_err-running.ensures.err (fetching_is_good s m t _ serving c.in_ok-fetching.ensures.ok))
