use Rattle.std.proofs.Common.{◌≡◌, ◌∙◌, ap, subst, string_bytes, rules}
use Rattle.hex.specs.Hex.{encode_lower, IsBytes}
use Rattle.hex.proofs.HexLemmas.{decode_of-encode_lower}
use Rattle.serde_json.specs.Data.{string}
use Rattle.nostr_wire.proofs.elements.BytesElement.write.Goals as goal

pub returns-clause-reads_back : goal.returns-clause-reads_back
returns-clause-reads_back c =
    let digits : string_bytes c.in_ok-encode.field-0 ≡ encode_lower c.args.self.now = search rules in
    let bytes : IsBytes c.args.self.now = subst IsBytes c.as_slice.ensures c.read_each.ensures in
    (encode_lower c.args.self.now, c.from.ensures ∙ ap string digits, decode_of-encode_lower c.args.self.now bytes)
