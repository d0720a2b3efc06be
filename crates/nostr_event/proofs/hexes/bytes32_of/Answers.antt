use Rattle.std.proofs.Common.{◌∙◌}
use Rattle.nostr_event.proofs.Bytes.{id_of_bytes}
use Rattle.nostr_event.proofs.hexes.bytes32_of.Goals as goal

pub returns-in_err-id-clause-missing : goal.returns-in_err-id-clause-missing
returns-in_err-id-clause-missing c = λ none b of same.
    c.in_err-id.ensures.none (record { 0 = b }) (id_of_bytes b of) (c.as_bytes.ensures.value ∙ same)
