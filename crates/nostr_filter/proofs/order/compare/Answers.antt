use Rattle.std.proofs.Common.{◌≡◌, ◌∷◌, [], None, List, ℕ, refl, rules, subst, sym, ◌∙◌}
use Rattle.std.proofs.Common.{Less}
use Rattle.std.specs.List.{slice_get}
use Rattle.std.specs.Ordering.{nat_cmp}
use Rattle.std.specs.Cmp.Lexicographic.{slice_cmp}
use Rattle.nostr_filter.proofs.TagLooking.{no_key}
use Rattle.nostr_filter.proofs.order.compare.Goals as goal

pub returns-in-None : goal.returns-in-None
returns-in-None c =
    let missing : slice_get c.args.tags.now c.args.place ≡ None = search rules in
    subst (λ (key : List ℕ). Less ≡ slice_cmp nat_cmp key (c.args.letter ∷ c.args.value.now)) (sym (no_key c.args.tags.now c.args.place missing)) refl
