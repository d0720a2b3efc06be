use Rattle.std.proofs.Common.{◌≡◌, ◌∙◌, Ok, IfSome, ap, sym, subst, refl}
use Rattle.hex.specs.Hex.{encode_lower, decode_of, IsBytes}
use Rattle.hex.proofs.HexLemmas.{decode_of-encode_lower}
use Rattle.nostr_wire.proofs.elements.BytesElement.read.Goals as goal

pub returns-in-Some-clause-ok : goal.returns-in-Some-clause-ok
returns-in-Some-clause-ok c =
    let items = c.in-Some.bytes.items in
    let bytes : IsBytes items = subst IsBytes c.as_slice.ensures.value c.read_each.ensures in
    let digits : c.as_bytes-text.result.now ≡ encode_lower items = subst (λ o. IfSome o (λ v. c.as_bytes-text.result.now ≡ encode_lower v.items)) c.in-Some.is c.in_ok-bytes.ensures.found in
    (refl, (c.text_in.result.now, c.text_in.ensures, ap decode_of (sym c.as_bytes-text.ensures.value ∙ digits) ∙ decode_of-encode_lower items bytes ∙ ap Ok (sym c.new.ensures)))
