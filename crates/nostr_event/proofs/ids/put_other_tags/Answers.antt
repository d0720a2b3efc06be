use Rattle.std.proofs.Common.{arith}
use Rattle.std.proofs.lemmas.Grind.{common_steps}
use Rattle.nostr_event.proofs.Utf8.{after_ascii}
use Rattle.nostr_event.proofs.ids.put_other_tags.Goals as goal

pub loop-tag-preserved : goal.loop-tag-preserved
loop-tag-preserved c = record {
  text = grind (arith, common_steps);
  utf8 = λ u. c.in_ok-put_tag.ensures.utf8 (after_ascii _ _ 44 c.in_ok-push.ensures.items (omega arith) (c.loop-tag.invariant.utf8 u));
}
