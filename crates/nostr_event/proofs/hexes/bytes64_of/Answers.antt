use Rattle.std.proofs.Common.{◌++◌, ℕ, length, List, sym, ap, ap₂, subst, ◌∙◌, arith}
use Rattle.hex.specs.Hex.{encode_lower, lower_digits}
use Rattle.hex.proofs.HexLemmas.{length-encode_with}
use Rattle.id_text.proofs.HexLemmas.{encode-append}
use Rattle.nostr_event.specs.EventView.{IsBytesOf}
use Rattle.nostr_event.proofs.Bytes.{id_of_bytes, bytes_of_id}
use Rattle.nostr_event.proofs.Halves.{halves, joined_bytes}
use Rattle.nostr_event.proofs.hexes.bytes64_of.Goals as goal

pub returns-then-digits-ne128-clause-missing : goal.returns-then-digits-ne128-clause-missing
returns-then-digits-ne128-clause-missing c = λ none b of same.
    let long = length-encode_with lower_digits b in
    omega (arith, long, of.0, ap length (c.as_bytes-digits.ensures.value ∙ same))

pub returns-in_err-first-clause-missing : goal.returns-in_err-first-clause-missing
returns-in_err-first-clause-missing c = λ none b of same.
    let half = halves c.as_bytes-digits.result.now b of (c.as_bytes-digits.ensures.value ∙ same) in
    c.in_err-first.ensures.none (record { 0 = _ }) (id_of_bytes _ half.front_bytes) (c.split_at.ensures.front ∙ half.front)

pub returns-in_err-second-clause-missing : goal.returns-in_err-second-clause-missing
returns-in_err-second-clause-missing c = λ none b of same.
    let half = halves c.as_bytes-digits.result.now b of (c.as_bytes-digits.ensures.value ∙ same) in
    c.in_err-second.ensures.none (record { 0 = _ }) (id_of_bytes _ half.back_bytes) (c.split_at.ensures.back ∙ half.back)

pub returns-clause-found : goal.returns-clause-found
returns-clause-found c =
    let first = c.in_ok-first in
    let second = c.in_ok-second in
    let bytes : IsBytesOf 64 c.joined.result = subst (IsBytesOf 64) (sym c.joined.ensures) (joined_bytes _ _ (bytes_of_id _ first.ensures.id) (bytes_of_id _ second.ensures.id)) in (
      bytes,
      sym c.as_bytes-digits.ensures.value ∙ c.split_at.ensures.by_index.0
          ∙ ap₂ (λ (a b : List ℕ). a ++ b) first.ensures.found second.ensures.found
          ∙ sym (encode-append first.first.0 second.second.0) ∙ ap encode_lower (sym c.joined.ensures),
    )
