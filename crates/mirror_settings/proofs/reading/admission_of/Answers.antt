use Rattle.std.proofs.Common.{inr}
use Rattle.std.proofs.lemmas.Result.{err_from_is_err_and}
use Rattle.toml.specs.View.{table_view}
use Rattle.mirror_settings.specs.declared.fault.SettingsKey.TheVariants.{Clients, PingMs, ReadOnly}
use Rattle.mirror_settings.proofs.Refusals.{one_more, stopped}
use Rattle.mirror_settings.proofs.reading.admission_of.Goals as goal

pub returns-in_err-clients-clause-err : goal.returns-in_err-clients-clause-err
returns-in_err-clients-clause-err c =
    let m = c.args.mirror in
    let t = table_view c.args.table.now in
    let wrong = c.in_err-clients.ensures.err in
    let p = err_from_is_err_and c.from_residual.result c.from_residual.ensures.1 in
    rw (p.1, p.2) (λ s below. stopped s m t Clients _ below (inr (wrong.0, λ g. wrong.1 g.0 g.1)))

pub returns-in_err-ping_ms-clause-err : goal.returns-in_err-ping_ms-clause-err
returns-in_err-ping_ms-clause-err c =
    let m = c.args.mirror in
    let t = table_view c.args.table.now in
    let wrong = c.in_err-ping_ms.ensures.err in
    let p = err_from_is_err_and c.from_residual-in_err-ping_ms.result c.from_residual-in_err-ping_ms.ensures.1 in
    rw (p.1, p.2) (λ s below.
    let clients = one_more s m t Clients below (c.in_ok-clients.clients, c.in_ok-clients.ensures.ok) in
    stopped s m t PingMs _ clients (inr (wrong.0, λ g. wrong.1 g.0 g.1)))

pub returns-in_err-read_only-clause-err : goal.returns-in_err-read_only-clause-err
returns-in_err-read_only-clause-err c =
    let m = c.args.mirror in
    let t = table_view c.args.table.now in
    let wrong = c.in_err-read_only.ensures.err in
    let p = err_from_is_err_and c.from_residual-in_err-read_only.result c.from_residual-in_err-read_only.ensures.1 in
    rw (p.1, p.2) (λ s below.
    let clients = one_more s m t Clients below (c.in_ok-clients.clients, c.in_ok-clients.ensures.ok) in
    let ping_ms = one_more s m t PingMs clients (c.in_ok-ping_ms.ping_ms, c.in_ok-ping_ms.ensures.ok) in
    stopped s m t ReadOnly _ ping_ms (inr (wrong.0, λ g. wrong.1 g.0 g.1)))
