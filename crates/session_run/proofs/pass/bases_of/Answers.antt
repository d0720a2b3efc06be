use Rattle.std.proofs.Common.{arith}
use Rattle.session_run.proofs.Loads.{begin_more, all_begun}
use Rattle.session_run.proofs.pass.bases_of.Goals as goal

pub loop-relay-init : goal.loop-relay-init
loop-relay-init c = record { begun = λ r below relay small. absurd (omega (arith, below)); rest = λ r above. c.none-bases.ensures.none r }

pub loop-relay-preserved : goal.loop-relay-preserved
loop-relay-preserved c = begin_more c.args.loads.now c.loop-relay.bases c.begin_load.new.bases c.loop-relay.relay c.begin_load.ensures.begun c.begin_load.ensures.others c.loop-relay.invariant

pub returns : goal.returns
returns c = all_begun c.args.loads.now c.loop-relay.bases c.loop-relay.relay (omega arith) c.loop-relay.invariant
