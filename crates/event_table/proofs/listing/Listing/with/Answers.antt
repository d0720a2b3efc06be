use Rattle.std.proofs.Common.{◌≡◌, ℕ, ◌+◌, ◌∷◌, ◌++◌, [], length, false, subst, ◌∙◌, ap}
use Rattle.std.specs.Prelude.{IfOk}
use Rattle.std.specs.Arc.{arc_value}
use Rattle.item_key.specs.declared.Id.{Id}
use Rattle.nostr_event.specs.EventView.{EventView}
use Rattle.id_map.specs.Places.{SetsPlace}
use Rattle.newest.specs.Newest.{AreOf}
use Rattle.event_table.specs.Events.{has_id}
use Rattle.event_table.proofs.Stands.{more_listed}
use Rattle.event_table.proofs.listing.Listing.with.Goals as goal

pub invariant_of-result : goal.invariant_of-result
invariant_of-result c =
    let e = arc_value c.args.event.now in
    let old = c.self.inside in
    let none : has_id e.id old.events ≡ false = rw c.self.view_is c.requires.fresh in
    let named = c.id.ensures.value ∙ ap (λ v. v.id) c.deref.ensures in
    let sets = subst (λ (n : ℕ). SetsPlace e.id n old.ids c.in_ok-ids.ids) c.len-place.ensures (subst (λ (i : Id). SetsPlace i c.len-place.result old.ids c.in_ok-ids.ids) named c.in_ok-ids.ensures) in
    let among = subst (λ (v : EventView). AreOf (old.events ++ v ∷ []) c.in_ok-newest.newest) c.in_ok-try_clone.ensures
    (subst (λ r. IfOk r (λ n. AreOf (old.events ++ arc_value c.in_ok-try_clone.field-0 ∷ []) n)) c.in_ok-newest.was (c.insert.ensures.events old.events c.self.invariant.ordered)) in
    let counted = subst (λ r. IfOk r (λ n. length n ≡ length old.newest + 1)) c.in_ok-newest.was c.insert.ensures.len in
    more_listed old.events _ old.ids c.in_ok-ids.ids old.newest c.in_ok-newest.newest e c.self.invariant none c.in_ok-push.ensures sets among counted
