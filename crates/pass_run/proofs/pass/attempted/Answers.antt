use Rattle.std.proofs.Common.{◌≡◌, Result, Ok, IfOk, subst}
use Rattle.mirror_core.specs.declared.round.Synced.{Synced}
use Rattle.mirror_core.specs.declared.fault.SyncFault.{SyncFault}
use Rattle.pass_run.specs.Passes.{IsPlannedFor}
use Rattle.pass_run.proofs.Passing.{planned_by}
use Rattle.pass_run.proofs.pass.attempted.Goals as goal

pub returns-in-Ok : goal.returns-in-Ok
returns-in-Ok g c =
    let is : c.in_ok-heard.field-0.done ≡ Ok c.in-Ok.done = cc (c.in_ok-heard.done-is, c.in-Ok.is, c.in-Ok.done-is) in
    let known = subst (λ (r : Result Synced SyncFault). IfOk r (λ d. IsPlannedFor c.args.settings.now c.args.slice d.ends.items d.table d.plan)) is c.in_ok-heard.ensures in
    planned_by c.args.settings.now c.args.slice c.in-Ok.done c.attempt_of.result c.attempt_of.ensures known
