use Rattle.std.proofs.Common.{◌++◌, ℕ, List, sym, ap, ap₂, ◌∙◌}
use Rattle.hex.specs.Hex.{encode_lower}
use Rattle.id_text.proofs.HexLemmas.{encode-append}
use Rattle.nostr_event.proofs.hexes.digits64_of.Goals as goal

pub returns : goal.returns
returns c =
    let halves = c.halves_of.result in
    c.joined_digits.ensures ∙ ap₂ (λ (a b : List ℕ). a ++ b) c.digits32_of.ensures c.digits32_of-2.ensures
    ∙ sym (encode-append halves.0 halves.1) ∙ ap encode_lower (sym c.halves_of.ensures)
