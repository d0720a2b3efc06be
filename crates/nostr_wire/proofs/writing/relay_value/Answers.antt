use Rattle.std.proofs.Common.{◌≡◌, map, refl}
use Rattle.std.proofs.lemmas.Result.{IfOk-weaker}
use Rattle.serde_json.specs.View.{view}
use Rattle.nostr_wire.specs.Elements.{data_of}
use Rattle.nostr_wire.specs.Forms.{relay_form, relay_table}
use Rattle.nostr_wire.specs.Reading.{SayEach, IsMessage}
use Rattle.nostr_wire.specs.Writing.{array_of}
use Rattle.nostr_wire.specs.declared.messages.FromRelay.TheVariants as relay
use Rattle.nostr_wire.proofs.Arrays.{both, is_message}
use Rattle.nostr_wire.proofs.writing.relay_value.Goals as goal

pub returns-in-Event-clause-message : goal.returns-in-Event-clause-message
returns-in-Event-clause-message c =
    let m = relay_form (relay.Event c.in-Event.sub c.in-Event.event) in
    rw c.in-Event.is (IfOk-weaker c.two.result (λ v. (view v ≡ array_of m) × SayEach m.said (map data_of m.said)) (λ v. IsMessage relay_table (view v) m)
    (λ v h. is_message relay_table m (view v) refl h.1 h.0)
    (both c.two.result (λ v. view v ≡ array_of m) (λ v. SayEach m.said (map data_of m.said)) c.two.ensures.value c.two.ensures.says))
