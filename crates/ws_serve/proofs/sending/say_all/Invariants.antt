use Rattle.std.proofs.Common.{◌≡◌, ◌++◌, map}
use Rattle.std.specs.Vec.Iter.{into_iter_items}
use Rattle.nostr_wire.specs.Forms.{relay_form}
use Rattle.relay_core.specs.Acknowledging.{AcknowledgeNone}
use Rattle.ws_serve.specs.Frames.{spoken}
use Rattle.ws_serve.specs.Traffic.{Says}
use Rattle.ws_serve.proofs.sending.say_all.Given as goal

abbrev pub invariant-loop-message : goal.invariant-loop-message
invariant-loop-message g l = record {
  none : AcknowledgeNone (map relay_form (into_iter_items l.message-iterator));
  said : Says l.initial.socket l.socket (spoken (map relay_form l.yielded));
  split : l.fn.messages.items ≡ l.yielded ++ into_iter_items l.message-iterator;
}
