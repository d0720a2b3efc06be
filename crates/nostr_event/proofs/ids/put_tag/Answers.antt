use Rattle.std.proofs.Common.{◌≡◌, ◌++◌, IsUtf8, arith}
use Rattle.nostr_event.specs.IdText.{joined, string_text}
use Rattle.nostr_event.proofs.Arrays.{joined_some, joined_none, bracketed}
use Rattle.nostr_event.proofs.Utf8.{after_ascii}
use Rattle.nostr_event.proofs.ids.put_tag.Goals as goal
use Rattle.nostr_event.proofs.ids.put_tag.Goals.{in-Some+in_ok-put_string+in_ok-put_others, in_default}

pub returns-clause-utf8 : goal.returns-clause-utf8
returns-clause-utf8 c = λ u.
    let begun = after_ascii _ _ 91 c.in_ok-push.ensures.items (omega arith) u in
    let inner : IsUtf8 c.match-split_first.out.items = elim c.match-split_first.branch [
      | in-Some+in_ok-put_string+in_ok-put_others w ↦ rw w.out-is (w.in_ok-put_others.ensures.utf8 (w.in_ok-put_string.ensures.utf8 begun))
      | in_default w ↦ rw w.out-is begun
    ] in
    after_ascii _ _ 93 c.in_ok-push-2.ensures.items (omega arith) inner

pub returns-clause-text : goal.returns-clause-text
returns-clause-text c =
    let text = string_text c.args.spelling in
    let inner : c.match-split_first.out.items ≡ c.push.new.self.items ++ joined text c.args.tag = elim c.match-split_first.branch [
      | in-Some+in_ok-put_string+in_ok-put_others w ↦ rw w.out-is (joined_some text _ w.in-Some.others w.in-Some.first.now _ _ _ w.in-Some.ensures w.in_ok-put_string.ensures.text w.in_ok-put_others.ensures.text)
      | in_default w ↦ rw w.out-is (joined_none text _ _ w.in_default.ensures)
    ] in
    bracketed _ _ _ _ _ c.in_ok-push.ensures.items inner c.in_ok-push-2.ensures.items
