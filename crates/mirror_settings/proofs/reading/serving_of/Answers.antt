use Rattle.std.proofs.lemmas.Result.{err_from_is_err_and}
use Rattle.toml.specs.View.{table_view}
use Rattle.mirror_settings.specs.declared.fault.SettingsKey.TheVariants.{Events, Listen, Conns}
use Rattle.mirror_settings.proofs.Refusals.{none_below, one_more, stopped}
use Rattle.mirror_settings.proofs.reading.serving_of.Goals as goal

pub returns-in_err-events-clause-err : goal.returns-in_err-events-clause-err
returns-in_err-events-clause-err c =
    let s = c.args.sync in
    let m = c.args.mirror in
    let t = table_view c.args.table.now in
    let p = err_from_is_err_and c.from_residual.result c.from_residual.ensures.1 in
    rw (p.1, p.2) (stopped s m t Events _ (none_below s m t) (c.in_err-events.ensures.err s m))

pub returns-in_err-listen-clause-err : goal.returns-in_err-listen-clause-err
returns-in_err-listen-clause-err c =
    let s = c.args.sync in
    let m = c.args.mirror in
    let t = table_view c.args.table.now in
    let p = err_from_is_err_and c.from_residual-in_err-listen.result c.from_residual-in_err-listen.ensures.1 in
    let events = one_more s m t Events (none_below s m t) (c.in_ok-events.events, c.in_ok-events.ensures.ok) in
    rw (p.1, p.2) (stopped s m t Listen _ events (c.in_err-listen.ensures.err m))

pub returns-in_err-conns-clause-err : goal.returns-in_err-conns-clause-err
returns-in_err-conns-clause-err c =
    let s = c.args.sync in
    let m = c.args.mirror in
    let t = table_view c.args.table.now in
    let p = err_from_is_err_and c.from_residual-in_err-conns.result c.from_residual-in_err-conns.ensures.1 in
    let events = one_more s m t Events (none_below s m t) (c.in_ok-events.events, c.in_ok-events.ensures.ok) in
    let listen = one_more s m t Listen events (c.in_ok-listen.listen, c.in_ok-listen.ensures.ok) in
    rw (p.1, p.2) (stopped s m t Conns _ listen (c.in_err-conns.ensures.err s))
