use Rattle.std.proofs.Common.{◌≡◌, ◌==◌, ℕ, length, rules, sym, ap, ◌∙◌}
use Rattle.nostr_event.proofs.Parting.{length_parts}
use Rattle.nostr_event.specs.Parts.{parts}
use Rattle.nostr_event.proofs.tags.Tags.is_empty.Goals as goal

pub returns : goal.returns
returns c =
    let tags = c.self.inside.tags.items in
    let none : c.is_empty.result ≡ (length tags == 0) = search rules in
    none ∙ ap (λ (n : ℕ). n == 0) (sym (length_parts (parts c.self.inside.bytes.items 0 c.self.inside.ends.items) 0 tags) ∙ ap length c.self.view_is)
