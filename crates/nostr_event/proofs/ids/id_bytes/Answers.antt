use Rattle.std.proofs.Common.{IsUtf8, subst, sym}
use Rattle.std.proofs.lemmas.Str.{IsUtf8-nil}
use Rattle.nostr_event.proofs.ids.id_bytes.Goals as goal

pub returns-clause-utf8 : goal.returns-clause-utf8
returns-clause-utf8 c =
    let none : IsUtf8 c.in_ok-out.out.items = subst IsUtf8 (sym c.in_ok-out.ensures.items) IsUtf8-nil in
    c.in_ok-put_tail.ensures.utf8 (c.in_ok-put_head.ensures.utf8 none)
