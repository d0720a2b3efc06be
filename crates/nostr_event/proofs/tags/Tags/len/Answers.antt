use Rattle.std.proofs.Common.{◌≡◌, length, rules, sym, ap, ◌∙◌}
use Rattle.nostr_event.proofs.Parting.{length_parts}
use Rattle.nostr_event.specs.Parts.{parts}
use Rattle.nostr_event.proofs.tags.Tags.len.Goals as goal

pub returns : goal.returns
returns c =
    let tags = c.self.inside.tags.items in
    let count : c.len.result ≡ length tags = search rules in
    count ∙ sym (length_parts (parts c.self.inside.bytes.items 0 c.self.inside.ends.items) 0 tags) ∙ ap length c.self.view_is
