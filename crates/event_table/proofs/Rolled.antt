-- What a roll of the first of a store's events finds.
use Rattle.std.proofs.Common.{◌≡◌, ℕ, ◌<◌, ◌≤◌, ◌==◌, inl, inr, true, List, length, get_or, take, sym, subst, arith, ◌∙◌}
use Rattle.std.specs.Prelude.{All, Contains, bytes_eq}
use Rattle.std.specs.List.{list_any}
use Rattle.std.specs.Ordering.{nat_cmp}
use Rattle.std.specs.FinSet.{nat_cmp-IsAntisymmetric}
use Rattle.std.proofs.lemmas.Bool.{cases_lt}
use Rattle.std.proofs.lemmas.Bool.Decides.{nat_tests}
use Rattle.std.proofs.lemmas.Cmp.{nat_cmp_total}
use Rattle.std.proofs.lemmas.List.{get_or-take, length-take-le}
use Rattle.std.proofs.lemmas.List.Elements.{recursion_from_All, All-from_recursion}
use Rattle.std.proofs.lemmas.Map.Views.{Contains-from_any}
use Rattle.item_key.specs.declared.Id.{Id}
use Rattle.item_key.specs.declared.Item.{Item}
use Rattle.nostr_event.specs.EventView.{EventView}
use Rattle.nostr_filter.specs.declared.filter.Filter.{Filter}
use Rattle.nostr_filter.specs.Matching.{matches_of}
use Rattle.nostr_filter.specs.Choice.{in_order}
use Rattle.nostr_filter.proofs.Orders.{any_in_order}
use Rattle.event_table.specs.Events.{places_in, DistinctIds}
use Rattle.event_table.specs.Places.{HaveMatching, AreWithin}
use Rattle.event_table.specs.States.{IsRolled}
use Rattle.event_table.proofs.Asked.{within_asked}
use Rattle.event_table.proofs.Ids.{place_at}
use Rattle.event_table.proofs.Indexed.{at_place}
use Rattle.event_table.proofs.Matched.{rise_in_order, found_within, asked_found}

place_below : (events : List EventView) (ids : List Id) (found : List ℕ) → found ≡ places_in events ids → (k d : ℕ) → k < length found → get_or found k d < length events
place_below events ids found at =
    let all : All (λ p. p < length events) (places_in events ids) = All-from_recursion (λ p. p < length events) (places_in events ids) (found_within events ids) in
    subst (λ (ps : List ℕ). (k d : ℕ) → k < length ps → get_or ps k d < length events) (sym at) all

-- the places of what stands in the roll between the filter's times, and of all that doesn't stand there
pub within_matching : (f : Filter) (events : List EventView) (roll : List Item) (ids : List Id) (found places more : List ℕ) (n : ℕ) → DistinctIds events → n ≡ length roll → IsRolled events roll
    → AreWithin f roll ids → found ≡ places_in events ids → (All (λ p. p < length events) found → All (λ p. p < length events) places) → ((i : ℕ) → Contains found i → Contains places i)
    → ((i : ℕ) → n ≤ i → i < length events → Contains places i) → more ≡ in_order nat_cmp places → HaveMatching f events more
within_matching f events roll ids found places more n apart len h within at below kept put is =
    let asked = within_asked f (take (length roll) events) roll ids h.items within in
    subst (λ (ps : List ℕ). HaveMatching f events ps) (sym is) (record {
      rise = rise_in_order (length events) places (recursion_from_All (λ p. p < length events) places (below (λ k d le. place_below events ids found at k d le)));
      whole = λ i e lt hit. any_in_order nat_cmp_total nat_cmp-IsAntisymmetric (λ p. p == i) places ∙ at_place places i (elim (cases_lt i (length roll)) [
        | inl early ↦
            let same : get_or (take (length roll) events) i e ≡ get_or events i e = get_or-take (length roll) events i e early in
            let some = asked i e (omega (arith, early, length-take-le (length roll) events h.within)) (subst (λ (x : EventView). matches_of f x ≡ true) (sym same) hit) in
            let any : list_any (λ p. p == i) found ≡ true = (λ j. list_any (λ p. p == i) (at j))
            ∙ asked_found events ids (get_or events i e).id i (place_at 0 i events i e apart lt (omega arith)) (subst (λ (x : EventView). list_any (λ (y : Id). bytes_eq y.0 x.id.0) ids ≡ true) same some) in
            kept i (Contains-from_any {eq = λ (x y : ℕ). y == x} (λ x y eq. grind (arith, nat_tests)) i found any)
        | inr late ↦ put i (omega (arith, late, len)) lt
      ]);
    })
