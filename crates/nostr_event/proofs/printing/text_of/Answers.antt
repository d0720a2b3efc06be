use Rattle.std.proofs.Common.{IsUtf8, subst, sym}
use Rattle.std.proofs.lemmas.Str.{IsUtf8-nil}
use Rattle.nostr_event.proofs.printing.text_of.Goals as goal

pub from_utf8_unchecked-text-requires : goal.from_utf8_unchecked-text-requires
from_utf8_unchecked-text-requires c =
    subst IsUtf8 (sym c.as_slice.ensures.value) (c.in_ok-put_object.ensures.utf8 (subst IsUtf8 (sym c.in_ok-out.ensures.items) IsUtf8-nil))
