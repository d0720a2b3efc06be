use Rattle.std.proofs.Common.{rules}
use Rattle.nostr_wire.proofs.Texts.{event_begun}
use Rattle.nostr_wire.proofs.names.Name.begin.Goals as goal

pub returns-in-Own-clause-message : goal.returns-in-Own-clause-message
returns-in-Own-clause-message c = event_begun c.begun.result c.args.self.now (search rules)

pub returns-in-Shared-clause-message : goal.returns-in-Shared-clause-message
returns-in-Shared-clause-message c = event_begun c.text_in.result c.args.self.now (search rules)
