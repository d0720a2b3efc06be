use Rattle.std.proofs.Common.{inl, inr, refl, rules}
use Rattle.serde_json.specs.View.{view}
use Rattle.nostr_wire.specs.Forms.{client_table}
use Rattle.nostr_wire.specs.Reading.{behind_name}
use Rattle.nostr_wire.proofs.Arrays.{no_row}
use Rattle.nostr_wire.proofs.reading.client_of.Goals as goal

pub returns-else-str_eq-6-clause-err : goal.returns-else-str_eq-6-clause-err
returns-else-str_eq-6-clause-err c =
    let row = no_row c.in-Some.name.now (client_table (behind_name (view c.args.value.now))) (search rules) in
    inr (inl (refl, rw (c.in-Some.ensures.found.0) row))
