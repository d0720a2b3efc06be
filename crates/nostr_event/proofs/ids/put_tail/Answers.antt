use Rattle.std.proofs.Common.{arith}
use Rattle.nostr_event.proofs.Utf8.{after_ascii}
use Rattle.nostr_event.proofs.ids.put_tail.Goals as goal

pub returns-clause-utf8 : goal.returns-clause-utf8
returns-clause-utf8 c = λ u.
    let content = c.in_ok-put_string.ensures.utf8 (after_ascii _ _ 44 c.in_ok-push.ensures.items (omega arith) (c.in_ok-put_tags.ensures.utf8 u)) in
    after_ascii _ _ 93 c.in_ok-push-2.ensures.items (omega arith) content
