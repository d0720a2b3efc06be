use Rattle.std.proofs.Common.{sym, ◌∙◌, ap, ◌∷◌}
use Rattle.std.specs.List.{list_any}
use Rattle.nostr_filter.specs.Members.{has_text}
use Rattle.nostr_filter.specs.TagOrders.{keys_of}
use Rattle.nostr_filter.proofs.TagLooking.{tags_found}
use Rattle.nostr_filter.proofs.order.condition_found.Goals as goal

pub returns : goal.returns
returns c =
    c.any_tagged.ensures
    ∙ ap (list_any (λ v. has_text (keys_of c.args.tags.now) (c.args.condition.now.letter ∷ v))) c.as_slice.ensures
    ∙ sym (tags_found c.args.tags.now c.args.condition.now)
