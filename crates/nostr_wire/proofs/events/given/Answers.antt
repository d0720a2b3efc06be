use Rattle.std.proofs.Common.{◌≡◌, ◌∷◌, codes}
use Rattle.json.specs.Token.{Token, begin_array}
use Rattle.json.specs.Lex.{tokens}
use Rattle.nostr_wire.proofs.Carried.{three_read, relay_event, relay_no_event}
use Rattle.nostr_wire.proofs.events.given.Goals as goal

pub returns-in-Ok-clause-ok : goal.returns-in-Ok-clause-ok
returns-in-Ok-clause-ok c =
    let us = c.in_ok-reader.reader in
    let opened : tokens c.args.text.now ≡ begin_array ∷ Token.string (codes "EVENT") ∷ us = c.in_ok-reader.ensures in
    let last = c.in_ok-event.ensures in
    let named = c.in_ok-sub.ensures in
    let is = three_read c.args.text.now us c.name_in.new.reader (codes "EVENT") c.in_ok-sub.sub last.0 opened named.0 last.1 in
    relay_event c.args.text.now c.in_ok-sub.sub last.0 is named.1 c.in-Ok.event.value (rw c.in-Ok.is at last.2)

pub returns-in-Err-clause-err : goal.returns-in-Err-clause-err
returns-in-Err-clause-err c =
    let us = c.in_ok-reader.reader in
    let opened : tokens c.args.text.now ≡ begin_array ∷ Token.string (codes "EVENT") ∷ us = c.in_ok-reader.ensures in
    let last = c.in_ok-event.ensures in
    let named = c.in_ok-sub.ensures in
    let is = three_read c.args.text.now us c.name_in.new.reader (codes "EVENT") c.in_ok-sub.sub last.0 opened named.0 last.1 in
    relay_no_event c.args.text.now c.in_ok-sub.sub last.0 is named.1 c.in-Err.fault (rw c.in-Err.is at last.3)
