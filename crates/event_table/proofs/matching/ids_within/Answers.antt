use Rattle.std.proofs.Common.{◌≤◌, ap, sym, subst, ◌∙◌}
use Rattle.std.specs.Prelude.{slice_range}
use Rattle.item_key.specs.Keys.{place, IsKey}
use Rattle.neg_codec.specs.Ranges.{edge_of}
use Rattle.item_roll.specs.Parts.{ids_of}
use Rattle.event_table.proofs.Asked.{part_within, not_below}
use Rattle.event_table.proofs.matching.ids_within.Goals as goal

pub returns-in_ok-ids : goal.returns-in_ok-ids
returns-in_ok-ids c =
    let l = edge_of c.first_bound-lower.result in
    let u = edge_of c.last_bound-upper.result in
    let le : place l ≤ place u = not_below c.is_below.ensures c.if-is_below.false in
    let part_is = ap (λ n. slice_range c.args.roll.now n c.find-hi.result) c.find-lo.ensures.value ∙ sym (c.find-hi.ensures.part l le) in
    part_within c.args.filter.now c.args.roll.now l u c.in_ok-ids.field-0.items (c.in_ok-ids.ensures ∙ ap ids_of part_is)
    (λ k there. subst IsKey there.2 (c.find-hi.ensures.roll.keys there.0 k there.1)) c.first_bound-lower.ensures c.last_bound-upper.ensures
