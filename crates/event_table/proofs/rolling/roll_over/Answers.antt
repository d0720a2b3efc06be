use Rattle.std.specs.Arc.{arc_value}
use Rattle.std.proofs.lemmas.Result.{IfOk-weaker}
use Rattle.event_table.proofs.Stands.{rolled_whole}
use Rattle.event_table.proofs.rolling.roll_over.Goals as goal

pub returns : goal.returns
returns c = IfOk-weaker c.roll_of_all.result _ _ (λ r moved. rolled_whole c.args.events.now (arc_value r) moved) c.roll_of_all.ensures
