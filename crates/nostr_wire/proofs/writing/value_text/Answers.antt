use Rattle.std.proofs.Common.{◌≡◌, ◌∙◌, ap}
use Rattle.serde_json.specs.View.{view}
use Rattle.serde_json.specs.Written.{compact_text}
use Rattle.nostr_wire.specs.Forms.{relay_form}
use Rattle.nostr_wire.specs.Writing.{array_of}
use Rattle.nostr_wire.proofs.Plain.{array_of-plain}
use Rattle.nostr_wire.proofs.writing.value_text.Goals as goal

pub returns-clause-text : goal.returns-clause-text
returns-clause-text c =
    let same : view c.in_ok-value.value ≡ array_of (relay_form c.args.message.now) = c.in_ok-value.ensures.value in
    let plain = array_of-plain (relay_form c.args.message.now) in
    c.in_ok-text.ensures.text (rw same plain.0) ∙ ap compact_text same

pub returns-clause-reads_back : goal.returns-clause-reads_back
returns-clause-reads_back c =
    let same : view c.in_ok-value.value ≡ array_of (relay_form c.args.message.now) = c.in_ok-value.ensures.value in
    let plain = array_of-plain (relay_form c.args.message.now) in
    (view c.in_ok-value.value, c.in_ok-text.ensures.reads_back (rw same plain.1), c.in_ok-value.ensures.message)
