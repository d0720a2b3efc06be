use Rattle.std.proofs.Common.{◌≡◌, rules}
use Rattle.nostr_wire.specs.Forms.{relay_form}
use Rattle.relay_core.specs.Stored.{fault_answer}
use Rattle.ws_serve.proofs.Answering.{refused_says, fault_tells}
use Rattle.ws_serve.proofs.Beginning.{fails}
use Rattle.ws_serve.proofs.Placing.{untold, refused_may}
use Rattle.ws_serve.proofs.together.refuse.Goals as goal

pub returns-clause-says : goal.returns-clause-says
returns-clause-says g c =
    let same : relay_form c.in_ok-message.message ≡ fault_answer c.args.id c.args.fault.now = search rules in
    refused_says c.say.result c.args.id _ _ _ _ same (fault_tells c.args.id c.args.fault.now) c.say.ensures.says

pub returns-clause-failed : goal.returns-clause-failed
returns-clause-failed g c =
    let same : relay_form c.in_ok-message.message ≡ fault_answer c.args.id c.args.fault.now = search rules in
    refused_may c.say.result c.args.id _ _ _ _ same (fault_tells c.args.id c.args.fault.now) c.say.ensures.failed

pub returns-in_err-message-clause-failed : goal.returns-in_err-message-clause-failed
returns-in_err-message-clause-failed g c = fails c.from_residual.result (untold c.args.id c.args.socket.now)
