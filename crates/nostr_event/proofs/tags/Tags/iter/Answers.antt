use Rattle.std.proofs.Common.{◌≡◌, rules}
use Rattle.nostr_event.proofs.tags.Tags.iter.Goals as goal

pub invariant_of-result : goal.invariant_of-result
invariant_of-result c =
    let bytes : c.as_slice.result.now ≡ c.self.inside.bytes.items = search rules in
    let ends : c.as_slice-2.result.now ≡ c.self.inside.ends.items = search rules in
    rw (bytes, ends) c.self.invariant.0.texts
