use Rattle.std.proofs.Common.{◌∙◌, ap, subst, sym}
use Rattle.serde_json.specs.Written.{compact_text}
use Rattle.nostr_event.specs.EventView.{EventView, IsEvent}
use Rattle.nostr_event.specs.EventJson.{object_of}
use Rattle.nostr_event.proofs.Rereading.{parts_said}
use Rattle.nostr_event.proofs.event.with_text.Goals as goal

pub invariant_of-result : goal.invariant_of-result
invariant_of-result c =
    let same = parts_said c.args.id c.args.draft c.args.sig.now _ _ c.into_parts-created_at.ensures c.requires.in_range c.in_ok-text.ensures in
    (subst IsEvent (sym same) c.requires, c.in_ok-text.ensures ∙ ap (λ (e : EventView). compact_text (object_of e)) (sym same))

pub returns : goal.returns
returns c = parts_said c.args.id c.args.draft c.args.sig.now _ _ c.into_parts-created_at.ensures c.requires.in_range c.in_ok-text.ensures
