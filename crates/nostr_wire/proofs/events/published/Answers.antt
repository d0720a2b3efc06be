use Rattle.std.proofs.Common.{◌≡◌, ◌∷◌, codes}
use Rattle.json.specs.Token.{Token, begin_array}
use Rattle.json.specs.Lex.{tokens}
use Rattle.nostr_wire.proofs.Carried.{two_read, client_event, client_no_event}
use Rattle.nostr_wire.proofs.events.published.Goals as goal

pub returns-in-Ok-clause-ok : goal.returns-in-Ok-clause-ok
returns-in-Ok-clause-ok c most =
    let us = c.in_ok-reader.reader in
    let opened : tokens c.args.text.now ≡ begin_array ∷ Token.string (codes "EVENT") ∷ us = c.in_ok-reader.ensures in
    let last = c.in_ok-event.ensures in
    let is = two_read c.args.text.now us (codes "EVENT") last.0 opened last.1 in
    client_event c.args.text.now last.0 c.in-Ok.event.value is (rw c.in-Ok.is at last.2)

pub returns-in-Err-clause-err : goal.returns-in-Err-clause-err
returns-in-Err-clause-err c =
    let us = c.in_ok-reader.reader in
    let opened : tokens c.args.text.now ≡ begin_array ∷ Token.string (codes "EVENT") ∷ us = c.in_ok-reader.ensures in
    let last = c.in_ok-event.ensures in
    let is = two_read c.args.text.now us (codes "EVENT") last.0 opened last.1 in
    client_no_event c.args.text.now last.0 c.in-Err.fault is (rw c.in-Err.is at last.3)
