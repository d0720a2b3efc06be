use Rattle.std.proofs.Common.{sym, subst, ℕ, List, ap, ◌∙◌}
use Rattle.std.specs.Ordering.{nat_cmp}
use Rattle.nostr_filter.specs.Choice.{in_order}
use Rattle.event_table.specs.Places.{HaveMatching}
use Rattle.event_table.specs.Events.{places_in}
use Rattle.event_table.proofs.Asked.{listed_asked}
use Rattle.event_table.proofs.Matched.{have_matching}
use Rattle.event_table.proofs.matching.places_by_ids.Goals as goal

pub returns : goal.returns
returns c =
    let f = c.args.filter.now in
    let state = c.args.table.now in
    let ids = c.in_ok-ids.ids.items in
    let is = c.put_in_order.ensures ∙ ap (in_order nat_cmp) (c.in_ok-places.ensures ∙ ap (places_in state) c.as_slice.ensures.value) in
    subst (λ (ps : List ℕ). HaveMatching f state ps) (sym is)
    (have_matching f state ids c.events.ensures.distinct (listed_asked f c.args.ids.now ids state c.requires c.in_ok-ids.ensures))
