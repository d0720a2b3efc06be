use Rattle.std.proofs.Common.{◌∙◌, ap}
use Rattle.serde_json.specs.Data.{string}
use Rattle.nostr_filter.proofs.Viewed.{viewed_more, viewed_all}
use Rattle.nostr_filter.proofs.writing.texts_value.Goals as goal

pub loop-text-preserved : goal.loop-text-preserved
loop-text-preserved c =
    let text = c.text-item.result in
    let here = c.in_ok-try_from_str.ensures ∙ ap string (c.as_str.ensures ∙ c.text-item.is) in
    rw c.in_ok-push.ensures.items (viewed_more string c.as_slice-text-items.result.now c.loop-text.text-index text c.loop-text.values.items _ c.loop-text-test.true c.loop-text.invariant here)

pub returns : goal.returns
returns c =
    viewed_all string c.as_slice-text-items.result.now _ c.loop-text.text-index c.loop-text.values c.loop-text-test.false c.loop-text.invariant c.as_slice-text-items.ensures
