use Rattle.std.proofs.Common.{length, ap}
use Rattle.std.proofs.lemmas.Result.{err_from_is_err_and}
use Rattle.toml.specs.View.{table_view}
use Rattle.mirror_settings.specs.declared.fault.SettingsKey.TheVariants.{Relays, Filter}
use Rattle.mirror_settings.proofs.Refusals.{one_more, stopped}
use Rattle.mirror_settings.proofs.reading.fetching_of.Goals as goal

pub returns-in_err-relays-clause-err : goal.returns-in_err-relays-clause-err
returns-in_err-relays-clause-err c =
    let s = c.args.sync in
    let t = table_view c.args.table.now in
    let p = err_from_is_err_and c.from_residual.result c.from_residual.ensures.1 in
    rw (p.1, p.2) (λ m below. stopped s m t Relays _ below (c.in_err-relays.ensures.err m))

pub returns-in_err-filter-clause-err : goal.returns-in_err-filter-clause-err
returns-in_err-filter-clause-err c =
    let s = c.args.sync in
    let t = table_view c.args.table.now in
    let p = err_from_is_err_and c.from_residual-in_err-filter.result c.from_residual-in_err-filter.ensures.1 in
    rw (p.1, p.2) (λ m below.
    let relays = one_more s m t Relays below (c.in_ok-relays.relays, c.in_ok-relays.ensures.ok) in
    stopped s m t Filter _ relays (c.in_err-filter.ensures.err m))

pub returns-in_err-planning-clause-err : goal.returns-in_err-planning-clause-err
returns-in_err-planning-clause-err c =
    let s = c.args.sync in
    let t = table_view c.args.table.now in
    let p = err_from_is_err_and c.from_residual-in_err-planning.result c.from_residual-in_err-planning.ensures.1 in
    rw (p.1, p.2) (λ m below.
    let relays = one_more s m t Relays below (c.in_ok-relays.relays, c.in_ok-relays.ensures.ok) in
    let filter = one_more s m t Filter relays (c.in_ok-filter.filter, c.in_ok-filter.ensures.ok) in
    let has = c.in_ok-relays.ensures.ok in
    c.in_err-planning.ensures.err m c.in_ok-relays.relays has (ap length c.as_slice-count.ensures) filter)
