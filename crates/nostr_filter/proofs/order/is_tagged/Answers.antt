use Rattle.std.proofs.Common.{rules, ◌∙◌, ◌∷◌}
use Rattle.std.specs.Ordering.{nat_cmp}
use Rattle.std.specs.Cmp.Lexicographic.{slice_cmp}
use Rattle.std.proofs.lemmas.Fn.{always_returns_same}
use Rattle.nostr_filter.specs.Members.{text_at}
use Rattle.nostr_filter.specs.TagOrders.{keys_of}
use Rattle.nostr_filter.proofs.Places.{looked}
use Rattle.nostr_filter.proofs.order.is_tagged.Goals as goal

pub returns : goal.returns
returns c =
    let keys = keys_of c.args.tags.now in
    let key = c.args.letter ∷ c.args.value.now in
    let e = c.binary_search_by-found.ensures in
    c.is_ok.ensures.value ∙ looked keys c.args.places.now key c.binary_search_by-found.result c.requires e.bound (e.position (λ p. slice_cmp nat_cmp (text_at keys p) key) (always_returns_same _ _ _ (λ a r g called. search rules)))
