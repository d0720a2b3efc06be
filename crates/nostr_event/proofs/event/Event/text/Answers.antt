use Rattle.std.proofs.Common.{subst}
use Rattle.nostr_event.specs.EventView.{IsEvent}
use Rattle.nostr_event.proofs.ReadsBack.{object_of-Reads}
use Rattle.nostr_event.proofs.event.Event.text.Goals as goal

pub returns-clause-reads_back : goal.returns-clause-reads_back
returns-clause-reads_back c = object_of-Reads c.args.self.now (subst IsEvent c.self.view_is c.self.invariant.0)
