use Rattle.std.proofs.lemmas.Result.{IfOk-weaker}
use Rattle.pass_run.proofs.Passing.{planned_for}
use Rattle.pass_run.proofs.pass.compared.Goals as goal

pub returns : goal.returns
returns g c =
    IfOk-weaker c.compare.result _ _ (λ done known. planned_for c.args.settings.now c.args.slice c.in_ok-filter.filter done.done c.compare.new.reader c.in_ok-filter.ensures known) c.compare.ensures
