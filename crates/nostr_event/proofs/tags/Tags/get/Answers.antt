use Rattle.std.proofs.Common.{◌≡◌, ◌≤◌, ◌<◌, ◌∙◌, length, get_or, rules, refl, sym, ap}
use Rattle.std.specs.List.{slice_get}
use Rattle.std.proofs.lemmas.Option.{slice_get_past, slice_get_read}
use Rattle.nostr_event.specs.Parts.{parts}
use Rattle.nostr_event.proofs.Parting.{found_part, missing_part}
use Rattle.nostr_event.proofs.tags.Tags.get.Goals as goal

pub returns-then-place-len : goal.returns-then-place-len
returns-then-place-len c =
    let tags = c.self.inside.tags.items in
    let past : length tags ≤ c.args.place = search rules in
    sym (missing_part (parts c.self.inside.bytes.items 0 c.self.inside.ends.items) tags c.args.place (slice_get_past tags c.args.place past)) ∙ ap (λ ts. slice_get ts c.args.place) c.self.view_is

pub tag_between-requires : goal.tag_between-requires
tag_between-requires c =
    let bytes : c.deref-2.result.now ≡ c.self.inside.bytes.items = search rules in
    let ends : c.deref-3.result.now ≡ c.self.inside.ends.items = search rules in
    rw (bytes, ends) c.self.invariant.0.texts

pub returns : goal.returns
returns c =
    let texts = parts c.self.inside.bytes.items 0 c.self.inside.ends.items in
    let tags = c.self.inside.tags.items in
    let bytes : c.deref-2.result.now ≡ c.self.inside.bytes.items = search rules in
    let ends : c.deref-3.result.now ≡ c.self.inside.ends.items = search rules in
    let stands : c.deref.result.now ≡ tags = search rules in
    let within : c.args.place < length tags = search rules in
    let read : c.index.result.now ≡ get_or tags c.args.place c.index.result.now = search rules in
    let found = slice_get_read tags (length tags) c.args.place c.index.result.now refl within read in
    let start = c.start_behind-start.ensures in
    rw (c.tag_between.ensures, bytes, ends)
    (sym (found_part texts tags c.args.place _ _ found record { none = start.none; some = rw (← stands) start.some }) ∙ ap (λ ts. slice_get ts c.args.place) c.self.view_is)
