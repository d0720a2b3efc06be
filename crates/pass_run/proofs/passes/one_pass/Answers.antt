use Rattle.pass_run.proofs.Telling.{tells_pass}
use Rattle.pass_run.proofs.passes.one_pass.Goals as goal

pub returns : goal.returns
returns g c = tells_pass c.args.settings.now _ _ _ c.args.pass _ _ _ c.in_ok-tally.tally c.in_ok-tally.ensures c.in_ok-say_pass.ensures
