use Rattle.std.proofs.lemmas.Result.{err_from_is_err_and}
use Rattle.toml.specs.View.{table_view}
use Rattle.mirror_settings.proofs.Parts.{pace_is_good, admission_is_good}
use Rattle.mirror_settings.proofs.reading.running_of.Goals as goal

pub returns-in_err-admission-clause-err : goal.returns-in_err-admission-clause-err
returns-in_err-admission-clause-err c =
    let s = c.args.sync in
    let m = c.args.mirror in
    let t = table_view c.args.table.now in
    let p = err_from_is_err_and c.from_residual-in_err-admission.result c.from_residual-in_err-admission.ensures.1 in
    rw (p.1, p.2) (λ below. c.in_err-admission.ensures.err s (pace_is_good s m t _ below c.in_ok-pace.ensures.ok))

pub returns-in_err-mirroring-clause-err : goal.returns-in_err-mirroring-clause-err
returns-in_err-mirroring-clause-err c =
    let s = c.args.sync in
    let m = c.args.mirror in
    let t = table_view c.args.table.now in
    let p = err_from_is_err_and c.from_residual-in_err-mirroring.result c.from_residual-in_err-mirroring.ensures.1 in
    rw (p.1, p.2) (λ below.
    let pace = pace_is_good s m t _ below c.in_ok-pace.ensures.ok in
    c.in_err-mirroring.ensures.err s (admission_is_good s m t _ pace c.in_ok-admission.ensures.ok))
