use Rattle.std.proofs.Common.{◌≡◌, ◌-◌, drop, sym, subst}
use Rattle.std.specs.List.{All}
use Rattle.std.specs.Str.{IsUtf8}
use Rattle.std.proofs.lemmas.List.Elements.{All-drop, All-take}
use Rattle.nostr_event.specs.Parts.{part, parts}
use Rattle.nostr_event.proofs.Parting.{part_of_parts}
use Rattle.nostr_event.proofs.tags.tag_between.Goals as goal
use Rattle.nostr_event.proofs.tags.tag_between.Goals.{After-ends_between}

same : (c : After-ends_between) → parts c.args.bytes.now c.start_behind.result c.ends_between.result.now ≡ part (parts c.args.bytes.now 0 c.args.ends.now) c.args.start c.args.end
same c = rw c.ends_between.ensures (part_of_parts c.args.bytes.now c.args.ends.now c.args.start c.args.end c.start_behind.result record { none = c.start_behind.ensures.none; some = c.start_behind.ensures.some })

pub invariant_of-result : goal.invariant_of-result
invariant_of-result c =
    let texts = parts c.args.bytes.now 0 c.args.ends.now in
    let start = c.args.start in
    let end = c.args.end in
    subst (All IsUtf8) (sym (same (goal.at.invariant_of-result c).After-ends_between))
    (All-take IsUtf8 (end - start) (drop start texts) (All-drop IsUtf8 start texts c.requires))

pub returns : goal.returns
returns c = same (goal.at.returns c).After-ends_between
