use Rattle.std.proofs.Common.{rules}
use Rattle.nostr_event.proofs.reading.parts_of.Goals as goal

pub returns-clause-ok : goal.returns-clause-ok
returns-clause-ok c =
    let h = c.in_ok-bare.ensures.ok in
    record {
      id = h.id;
      pubkey = h.pubkey;
      created_at = h.created_at;
      kind = h.kind;
      tags = search rules;
      content = search rules;
      sig = h.sig;
      in_range = record { finite = h.finite; kind = h.low; id = h.id_bytes; pubkey = h.pubkey_bytes; sig = h.sig_bytes };
    }
