use Rattle.std.proofs.Common.{rules, ◌∙◌}
use Rattle.std.specs.Ordering.{nat_cmp}
use Rattle.std.specs.Cmp.Lexicographic.{slice_cmp}
use Rattle.std.proofs.lemmas.Fn.{always_returns_same}
use Rattle.nostr_filter.specs.Members.{text_at}
use Rattle.nostr_filter.proofs.Places.{looked}
use Rattle.nostr_filter.proofs.members.is_listed.Goals as goal

pub returns : goal.returns
returns c =
    let texts = c.args.texts.now in
    let text = c.args.text.now in
    let e = c.binary_search_by-found.ensures in
    c.is_ok.ensures.value ∙ looked texts c.args.places.now text c.binary_search_by-found.result c.requires e.bound (e.position (λ p. slice_cmp nat_cmp (text_at texts p) text) (always_returns_same _ _ _ (λ a r g called. search rules)))
