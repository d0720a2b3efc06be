use Rattle.std.proofs.Common.{inr}
use Rattle.std.proofs.lemmas.Result.{err_from_is_err_and}
use Rattle.toml.specs.View.{table_view}
use Rattle.mirror_settings.specs.declared.fault.SettingsKey.TheVariants.{PushMs, TimeoutMs, Fsync, SlowBytes}
use Rattle.mirror_settings.proofs.Refusals.{one_more, stopped}
use Rattle.mirror_settings.proofs.reading.pace_of.Goals as goal

pub returns-in_err-push_ms-clause-err : goal.returns-in_err-push_ms-clause-err
returns-in_err-push_ms-clause-err c =
    let s = c.args.sync in
    let t = table_view c.args.table.now in
    let wrong = c.in_err-push_ms.ensures.err in
    let p = err_from_is_err_and c.from_residual.result c.from_residual.ensures.1 in
    rw (p.1, p.2) (λ m below. stopped s m t PushMs _ below (inr (wrong.0, λ g. wrong.1 g.0 g.1)))

pub returns-in_err-timeout_ms-clause-err : goal.returns-in_err-timeout_ms-clause-err
returns-in_err-timeout_ms-clause-err c =
    let s = c.args.sync in
    let t = table_view c.args.table.now in
    let wrong = c.in_err-timeout_ms.ensures.err in
    let p = err_from_is_err_and c.from_residual-in_err-timeout_ms.result c.from_residual-in_err-timeout_ms.ensures.1 in
    rw (p.1, p.2) (λ m below.
    let push_ms = one_more s m t PushMs below (c.in_ok-push_ms.push_ms, c.in_ok-push_ms.ensures.ok) in
    stopped s m t TimeoutMs _ push_ms (inr (wrong.0, λ g. wrong.1 g.0 g.1)))

pub returns-in_err-fsync-clause-err : goal.returns-in_err-fsync-clause-err
returns-in_err-fsync-clause-err c =
    let s = c.args.sync in
    let t = table_view c.args.table.now in
    let p = err_from_is_err_and c.from_residual-in_err-fsync.result c.from_residual-in_err-fsync.ensures.1 in
    rw (p.1, p.2) (λ m below.
    let push_ms = one_more s m t PushMs below (c.in_ok-push_ms.push_ms, c.in_ok-push_ms.ensures.ok) in
    let timeout_ms = one_more s m t TimeoutMs push_ms (c.in_ok-timeout_ms.timeout_ms, c.in_ok-timeout_ms.ensures.ok) in
    stopped s m t Fsync _ timeout_ms (c.in_err-fsync.ensures.err s m))

pub returns-in_err-slow_bytes-clause-err : goal.returns-in_err-slow_bytes-clause-err
returns-in_err-slow_bytes-clause-err c =
    let s = c.args.sync in
    let t = table_view c.args.table.now in
    let p = err_from_is_err_and c.from_residual-in_err-slow_bytes.result c.from_residual-in_err-slow_bytes.ensures.1 in
    rw (p.1, p.2) (λ m below.
    let push_ms = one_more s m t PushMs below (c.in_ok-push_ms.push_ms, c.in_ok-push_ms.ensures.ok) in
    let timeout_ms = one_more s m t TimeoutMs push_ms (c.in_ok-timeout_ms.timeout_ms, c.in_ok-timeout_ms.ensures.ok) in
    let fsync = one_more s m t Fsync timeout_ms (c.in_ok-fsync.fsync, c.in_ok-fsync.ensures.ok) in
    stopped s m t SlowBytes _ fsync (c.in_err-slow_bytes.ensures.err m))
