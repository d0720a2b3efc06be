use Rattle.std.proofs.Common.{inl, inr}
use Rattle.std.proofs.lemmas.Result.{err_from_is_err_and}
use Rattle.toml.specs.View.{table_view}
use Rattle.mirror_settings.specs.declared.fault.SettingsKey.TheVariants.{Workers, Bases, Rounds}
use Rattle.mirror_settings.proofs.Refusals.{one_more, stopped, as_many_bases, not_as_many}
use Rattle.mirror_settings.proofs.reading.planning_of.Goals as goal

pub returns-in_err-workers-clause-err : goal.returns-in_err-workers-clause-err
returns-in_err-workers-clause-err c =
    let s = c.args.sync in
    let t = table_view c.args.table.now in
    let p = err_from_is_err_and c.from_residual.result c.from_residual.ensures.1 in
    rw (p.1, p.2) (λ m relays has long below. stopped s m t Workers _ below (c.in_err-workers.ensures.err m))

pub returns-in_err-bases-clause-err : goal.returns-in_err-bases-clause-err
returns-in_err-bases-clause-err c =
    let s = c.args.sync in
    let t = table_view c.args.table.now in
    let p = err_from_is_err_and c.from_residual-in_err-bases.result c.from_residual-in_err-bases.ensures.1 in
    rw (p.1, p.2) (λ m relays has long below.
    let workers = one_more s m t Workers below (c.in_ok-workers.workers, c.in_ok-workers.ensures.ok) in
    stopped s m t Bases _ workers (elim c.in_err-bases.ensures.err [
      | inl memory ↦ inl memory
      | inr wrong ↦ inr (wrong.0, not_as_many s m t relays c.args.count has long wrong.1)
    ]))

pub returns-in_err-rounds-clause-err : goal.returns-in_err-rounds-clause-err
returns-in_err-rounds-clause-err c =
    let s = c.args.sync in
    let t = table_view c.args.table.now in
    let p = err_from_is_err_and c.from_residual-in_err-rounds.result c.from_residual-in_err-rounds.ensures.1 in
    rw (p.1, p.2) (λ m relays has long below.
    let workers = one_more s m t Workers below (c.in_ok-workers.workers, c.in_ok-workers.ensures.ok) in
    let good = as_many_bases s m t relays c.args.count c.in_ok-bases.bases has long c.in_ok-bases.ensures.ok in
    stopped s m t Rounds _ (one_more s m t Bases workers good) (c.in_err-rounds.ensures.err m))
