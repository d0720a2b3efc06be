use Rattle.std.proofs.Common.{◌∙◌, [], refl, sym}
use Rattle.std.proofs.lemmas.List.{take_all}
use Rattle.std.proofs.lemmas.List.Elements.{All-nil, All-same, All-more}
use Rattle.hex.specs.Hex.{encode_lower}
use Rattle.serde_json.specs.Data.{string}
use Rattle.nostr_event.specs.EventView.{IsBytesOf}
use Rattle.nostr_filter.proofs.Viewed.{viewed_more, viewed_all}
use Rattle.nostr_filter.proofs.writing.hex_value.Goals as goal

pub loop-bytes-init : goal.loop-bytes-init
loop-bytes-init c = record {
  values = rw c.new-values.ensures.items refl;
  bytes = All-nil (IsBytesOf 32);
}

pub loop-bytes-preserved : goal.loop-bytes-preserved
loop-bytes-preserved c =
    let items = c.as_slice-bytes-items.result.now in
    let i = c.loop-bytes.bytes-index in
    let here = c.in_ok-hex_text.ensures.value in
    record {
      values = rw c.in_ok-push.ensures.items (viewed_more (λ b. string (encode_lower b)) items i [] c.loop-bytes.values.items _ c.loop-bytes-test.true c.loop-bytes.invariant.values here);
      bytes = All-more (IsBytesOf 32) items i [] c.loop-bytes-test.true c.loop-bytes.invariant.bytes c.in_ok-hex_text.ensures.bytes;
    }

pub returns : goal.returns
returns c =
    let items = c.as_slice-bytes-items.result.now in
    let i = c.loop-bytes.bytes-index in
    let whole = take_all i items c.loop-bytes-test.false ∙ c.as_slice-bytes-items.ensures in
    record {
      value = viewed_all (λ b. string (encode_lower b)) items _ i c.loop-bytes.values c.loop-bytes-test.false c.loop-bytes.invariant.values c.as_slice-bytes-items.ensures;
      bytes = All-same (IsBytesOf 32) _ _ (sym whole) c.loop-bytes.invariant.bytes;
    }
