use Rattle.std.proofs.Common.{◌≡◌, Some, arith, rules}
use Rattle.nostr_event.specs.EventView.{EventView}
use Rattle.event_text.proofs.Members.{id_of, has_fields}
use Rattle.event_text.proofs.reading.event_of.Goals as goal

pub returns-in-Ok-None : goal.returns-in-Ok-None
returns-in-Ok-None c found h =
    let f = c.args.fields in
    let id : f.id ≡ Some c.in-Some.id = grind arith in
    let e : EventView = record {
      id = record { 0 = c.in-Some.id };
      draft = record {
        pubkey = c.in-Some.pubkey;
        created_at = c.in-Some.created_at;
        kind = c.in-Some.kind;
        tags = c.in_ok-fields.field-0;
        content = c.new.result;
      };
      sig = c.in-Some.sig;
    } in
    let fields = has_fields found f e c.in-Some.content h id (grind arith) (grind arith) (grind arith) (grind arith) (grind arith) (search rules) (grind arith) in
    let stated = id_of found f c.in-Some.id h id in
    ((e, fields, search rules), stated.0, stated.1)
