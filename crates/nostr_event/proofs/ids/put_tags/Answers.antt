use Rattle.std.proofs.Common.{◌≡◌, ◌∙◌, ◌++◌, IsUtf8, arith, sym}
use Rattle.nostr_event.specs.IdText.{joined, tag_text}
use Rattle.nostr_event.proofs.Arrays.{joined_some, joined_none, bracketed}
use Rattle.nostr_event.proofs.Utf8.{after_ascii}
use Rattle.nostr_event.proofs.ids.put_tags.Goals as goal
use Rattle.nostr_event.proofs.ids.put_tags.Goals.{in-Some+in_ok-put_tag+in_ok-put_other_tags, in_default}

pub returns-clause-utf8 : goal.returns-clause-utf8
returns-clause-utf8 c = λ u.
    let begun = after_ascii _ _ 91 c.in_ok-push.ensures.items (omega arith) u in
    let inner : IsUtf8 c.match-next.out.items = elim c.match-next.branch [
      | in-Some+in_ok-put_tag+in_ok-put_other_tags w ↦ rw w.out-is (w.in_ok-put_other_tags.ensures.utf8 (w.in_ok-put_tag.ensures.utf8 begun))
      | in_default w ↦ rw w.out-is begun
    ] in
    after_ascii _ _ 93 c.in_ok-push-2.ensures.items (omega arith) inner

pub returns-clause-text : goal.returns-clause-text
returns-clause-text c =
    let text = tag_text c.args.spelling in
    let inner : c.match-next.out.items ≡ c.push.new.self.items ++ joined text c.args.tags.now = elim c.match-next.branch [
      | in-Some+in_ok-put_tag+in_ok-put_other_tags w ↦ rw w.out-is (joined_some text _ c.next.new.self w.in-Some.first _ _ _ (sym c.iter-tags.ensures ∙ w.in-Some.ensures.steps) w.in_ok-put_tag.ensures.text w.in_ok-put_other_tags.ensures.text)
      | in_default w ↦ rw w.out-is (joined_none text _ _ (sym c.iter-tags.ensures ∙ w.in_default.ensures.steps.0))
    ] in
    bracketed _ _ _ _ _ c.in_ok-push.ensures.items inner c.in_ok-push-2.ensures.items
