use Rattle.std.proofs.Common.{◌≡◌, ◌∙◌, ap, sym}
use Rattle.serde_json.specs.Read.{read}
use Rattle.serde_json.specs.View.{view}
use Rattle.nostr_event.specs.EventJson.{object_of}
use Rattle.nostr_event.proofs.ReadsBack.{object_of-Reads}
use Rattle.nostr_event.proofs.Rereading.{event_read, one_value}
use Rattle.nostr_event.proofs.event.Event.to_json.Goals as goal
use Rattle.nostr_event.proofs.event.Event.to_json.Goals.{In-Ok}

object_is : (c : In-Ok) → view c.in-Ok.value ≡ object_of c.args.self.now
object_is c = one_value (sym c.in-Ok.ensures.ok ∙ ap read c.text.ensures.text ∙ event_read c.args.self.now c.id-id.ensures.whole.in_range)

pub returns-in-Ok-clause-object : goal.returns-in-Ok-clause-object
returns-in-Ok-clause-object c = object_is c

pub returns-in-Ok-clause-reads_back : goal.returns-in-Ok-clause-reads_back
returns-in-Ok-clause-reads_back c = rw (object_is c) (object_of-Reads c.args.self.now c.id-id.ensures.whole)
